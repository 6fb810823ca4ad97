-- What working out the grades asks of a book's terms and of a sheet's bodies, and the grade of one term from the columns of those below it.
-- Assumes nothing.
use Rattle.std.specs.Prelude.{◌≡◌, List, [], ℕ, ◌+◌, ◌*◌, ◌≤◌, ◌<◌, length, get_or}
use Rattle.chain.specs.Connectives.{Quantifier, through, over}
use Rattle.chain.specs.Lists.{highest}
use Rattle.semantics.specs.Terms.{Term, local}
use Rattle.semantics.specs.Interpretations.{at_elements, grade_at}
use Rattle.semantics.specs.Books.{name_above, role_above}
use Rattle.sections.specs.Terms.{terms_of, TermsRight}
use Rattle.gradings.specs.Gradings.{connectives_of, grading}
use Rattle.gradings.specs.declared.Logic.{Logic}
use Rattle.sheets.specs.Reading.{interpretation}
use Rattle.columns.specs.Columns.{cell_at, HoldsTo}
use Rattle.columns.specs.declared.Columns.{Columns}

-- by the logic l: the terms' section s, n rows of A name grades, and for each of R roles n rows of n links
pub record Workable (s : List ℕ) (l : Logic) (n A R : ℕ) (names links : List ℕ) : Type 0 where
  pub right : TermsRight s
  pub few_terms : length s ≤ 192
  pub few_elements : n ≤ 64
  pub names_long : n * A ≤ length names
  pub links_long : R * (n * n) ≤ length links
  pub names_le : (k : ℕ) → get_or names k 0 ≤ l.steps
  pub links_le : (k : ℕ) → get_or links k 0 ≤ l.steps
  pub names_counted : highest name_above (terms_of s) ≤ A
  pub roles_counted : highest role_above (terms_of s) ≤ R

module _ (s : List ℕ) (l : Logic) (n A : ℕ) (names links : List ℕ) where
  -- .. for some number of roles: the code looks at those that the terms name
  abbrev pub Evaluable : Type 0
  Evaluable = (R : ℕ) × Workable s l n A R names links

  -- the columns hold the grades of the first k terms; wherever the individuals are, since no grade looks at them
  abbrev pub WorkedTo : (k : ℕ) → Columns → Type 0
  WorkedTo k v = (individuals : List ℕ) → HoldsTo (grading l (terms_of s)) (interpretation n A names links individuals) k v

  -- .. of all terms
  abbrev pub WorkedAll : Columns → Type 0
  WorkedAll = WorkedTo (length (terms_of s))

  -- .. and column k those at the first m elements
  abbrev pub WorkedIn : (k m : ℕ) → Columns → Type 0
  WorkedIn k m v =
      (individuals : List ℕ) (e : ℕ) → e < m → cell_at v k e ≡ grade_at (grading l (terms_of s)) (interpretation n A names links individuals) k e

-- what the columns v give for a term, of number i, at element e: the table of document 01, with the children's grades read from v
abbrev pub grade_from : (l : Logic) (n A : ℕ) (names links : List ℕ) (v : Columns) (i : ℕ) → Term → (e : ℕ) → ℕ
grade_from l n A names links v i t e = local (at_elements (grading l []) (interpretation n A names links [])) i t (cell_at v) e

-- ---- quantified terms

-- what a quantified term takes from n elements: through the row of its links, from the column of its child's grades
abbrev pub taken_over : Quantifier → (l : Logic) (row column : List ℕ) (n : ℕ) → ℕ
taken_over q l row column n = over q l.steps (λ f. through (connectives_of l) q (get_or row f 0) (get_or column f 0)) n

-- .. where role and child are r and x, at element e
abbrev pub taken_at : Quantifier → (l : Logic) (n : ℕ) (links : List ℕ) (v : Columns) (r x e : ℕ) → ℕ
taken_at q l n links v r x e = over q l.steps (λ f. through (connectives_of l) q (get_or links (n * (n * r + e) + f) 0) (cell_at v x f)) n

-- that row and that column are there
pub record Reached (n : ℕ) (links : List ℕ) (r x e : ℕ) : Type 0 where
  pub few_elements : n ≤ 64
  pub element : e < n
  pub row_end : n * (n * r + e) + n ≤ length links
  pub child : x < 64
