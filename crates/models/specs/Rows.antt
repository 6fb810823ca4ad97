-- The interpretation of listed types as code works it out: by a table of the types' rows of grades.
-- Assumes nothing.
use Rattle.std.proofs.Common.{⊎_elim}
use mathlib.Core.List.{List, [], flat_map}
use Rattle.std.specs.Prelude.{ℕ, ◌≤◌, length, get_or}
use Rattle.chain.specs.Lists.{table, from, index}
use Rattle.semantics.specs.Terms.{Term}
use Rattle.semantics.specs.Interpretations.{Grading, Interpretation}
use Rattle.semantics.specs.Links.{link_between}
use Rattle.types.specs.Candidates.{bearer}
use Rattle.sections.specs.Terms.{terms_of}
use Rattle.gradings.specs.Gradings.{grading}
use Rattle.gradings.specs.declared.Logic.{Logic}
use Rattle.grades.specs.Rows.{HasGrades, entry, row_at, EachRow}
use Rattle.sheets.specs.Reading.{interpretation}
use Rattle.sheets.specs.Writing.{head_bytes}
use Rattle.shapes.specs.declared.Shape.{Shape}
use Rattle.elimination.specs.Listed.{types_in}

-- ---- what is written

-- the counts of a sheet that a book and 64 types allow
pub record Small (p : Shape) : Type 0 where
  pub elements_le : p.elements ≤ 64
  pub names_le : p.names ≤ 16
  pub roles_le : p.roles ≤ 8
  pub individuals_le : p.individuals ≤ 8

-- the interpretation of the candidates in xs, by the logic l with the terms of section s: individual j sits at the type seats[j]
abbrev pub model_of : Logic → (s xs seats : List ℕ) → Interpretation
model_of l s xs seats = types_in (grading l (terms_of s)) xs (λ j. index xs (get_or seats j 0))

-- ---- by rows

-- the table's first k rows are those of the first k candidates of xs
abbrev pub HoldsRows : Grading → (xs : List ℕ) (k : ℕ) (rows : List ℕ) → Type 0
HoldsRows G xs k rows = EachRow (λ e. HasGrades G (get_or xs e 0)) k rows

-- the grade of name a in a row: "names graded as in the type (0 for a name that no term uses)"
unfoldable pub name_in : List Term → (a : ℕ) (row : List ℕ) → ℕ
name_in ts a row = ⊎_elim (λ u. get_or row u.0 0) (λ _. 0) (bearer ts a)

-- the link of two rows of the table
abbrev pub link_in : Logic → List Term → (rows : List ℕ) (r e f : ℕ) → ℕ
link_in l ts rows r e f = link_between (grading l ts) r (entry (row_at rows e)) (entry (row_at rows f))

-- the interpretation, its names and links worked out from the rows
abbrev pub rows_in : Logic → (s rows xs seats : List ℕ) → Interpretation
rows_in l s rows xs seats = record {
  size = length xs;
  names = λ a e. name_in (terms_of s) a (row_at rows e);
  links = λ r e f. link_in l (terms_of s) rows r e f;
  element = λ j. index xs (get_or seats j 0);
}

-- ---- its sheet, body by body

-- the names of n elements, A each
unfoldable pub names_by : List Term → (rows : List ℕ) (A n : ℕ) → List ℕ
names_by ts rows A n = flat_map (λ e. table (λ a. name_in ts a (row_at rows e)) A) (from 0 n)

-- the links of n elements for one role, and for R roles
unfoldable pub square_by : Logic → List Term → (rows : List ℕ) (n r : ℕ) → List ℕ
square_by l ts rows n r = flat_map (λ e. table (λ f. link_in l ts rows r e f) n) (from 0 n)

unfoldable pub links_by : Logic → List Term → (rows : List ℕ) (n R : ℕ) → List ℕ
links_by l ts rows n R = flat_map (square_by l ts rows n) (from 0 R)

-- the head, which looks at the counts alone
abbrev pub head_by : (N : ℕ) → Shape → List ℕ
head_by N p = head_bytes N p.names p.roles p.individuals (interpretation p.elements 0 [] [] [])
