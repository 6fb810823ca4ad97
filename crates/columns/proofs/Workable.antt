-- Laws of working out: what the premises give for each term, the grade by kinds from the columns, and one cell more.
-- Assumes nothing.
use mathlib.Core.Path.{◌≡◌, refl, sym, ap₂, subst, ◌∙◌}
use mathlib.Core.List.{List, []}
use Prim.Native.Nat.{ℕ, ◌+◌, ◌*◌, ◌≤◌, ◌<◌}
use native.Mathlib.Omega.{arith}
use lib.ListN.{length, get_or, take, drop}
use lib.Seq.{get_or-take}
use borrow.Author.Count.{below_more}
use Rattle.chain.specs.Connectives.{Quantifier, existential, universal, through}
use Rattle.chain.specs.Lists.{highest}
use Rattle.chain.proofs.Connectives.{over-same}
use Rattle.chain.proofs.Lists.{each_at, each-highest}
use Rattle.semantics.specs.Terms.{Term, name, bottom, Children}
use Rattle.semantics.specs.Quantified.{quantified}
use Rattle.semantics.specs.Interpretations.{WellFormed, OnChain, grade_at}
use Rattle.semantics.specs.Books.{name_above, role_above}
use Rattle.semantics.proofs.Interpretations.{at_elements-same, grade_at-local, grade_at_le}
use Rattle.sections.specs.Terms.{term_count, term_at, terms_of}
use Rattle.sections.proofs.Terms.{length-terms, term-at, terms-ordered}
use Rattle.gradings.specs.Gradings.{connectives_of, grading}
use Rattle.gradings.specs.declared.Logic.{Logic}
use Rattle.gradings.proofs.Gradings.{grading_well_formed}
use Rattle.sheets.specs.Reading.{interpretation}
use Rattle.columns.specs.Columns.{cell_at, column_at, Stored}
use Rattle.columns.specs.declared.Columns.{Columns}
use Rattle.columns.specs.Workable.{Workable, WorkedTo, WorkedIn, grade_from, taken_over, taken_at, Reached}
use Rattle.columns.proofs.Bounds.{entry-below, block_row-end, part_at}

-- ---- quantified terms, over the row of links and the child's column as they are lent

module _ {n : ℕ} {links : List ℕ} {r x e : ℕ} (ok : Reached n links r x e) {row : List ℕ} (row_is : row ≡ take n (drop (n * (n * r + e)) links)) where
  pub row_le : (m : ℕ) → ((k : ℕ) → get_or links k 0 ≤ m) → (f : ℕ) → f < n → get_or row f 0 ≤ m
  row_le m h f l = rw (part_at links row n (n * (n * r + e)) row_is f l) (h _)

  pub taken_lent : (v : Columns) {column : List ℕ} → column ≡ take n (column_at v x) → (q : Quantifier) (lg : Logic)
      → taken_over q lg row column n ≡ taken_at q lg n links v r x e
  taken_lent v column-is q lg =
      over-same q lg.steps _ _ n (λ f h.
      ap₂ (through (connectives_of lg) q) (part_at links row n (n * (n * r + e)) row_is f h) (rw (column-is, get_or-take) refl))

-- ---- what the premises give

-- a bound on the terms is one on each
counted : (s : List ℕ) (f : Term → ℕ) (m : ℕ) → highest f (terms_of s) ≤ m → (i : ℕ) → i < term_count s → f (term_at s i) ≤ m
counted s f m h i l =
    subst (λ (t : Term). f t ≤ m) (term-at s i l)
    ((each_at (λ t. f t ≤ m) (terms_of s) bottom).0 (each-highest f (terms_of s) m h) i (rw (length-terms s) l))

module _ {s : List ℕ} {lg : Logic} {n A R : ℕ} {names links : List ℕ} (w : Workable s lg n A R names links) where
  well_formed : WellFormed (grading lg (terms_of s))
  well_formed = grading_well_formed lg (terms_of s) (terms-ordered s w.right)

  on_chain : 0 < n → OnChain lg.steps (interpretation n A names links [])
  on_chain h = record { inhabited = h; names_le = λ a e l. w.names_le _; links_le = λ r e f l g. w.links_le _; element_lt = λ j. h }

  module _ (i : ℕ) (h : i < term_count s) where
    at-term : i < length (terms_of s)
    at-term = rw (length-terms s) h

    pub name_below : (a : ℕ) → term_at s i ≡ name a → (e : ℕ) → e < n → A * e + a < length names
    name_below a is e l =
        let m : name_above (name a) ≤ A = subst (λ (t : Term). name_above t ≤ A) is (counted s name_above A w.names_counted i h) in
        omega (arith, entry-below A a e n (omega arith) l, w.names_long)

    pub reached : (q : Quantifier) (r x : ℕ) → term_at s i ≡ quantified q r x → x < i → (e : ℕ) → e < n → Reached n links r x e
    reached q r x is l e m =
        let role : r < R = role_below q (subst (λ (t : Term). role_above t ≤ R) is (counted s role_above R w.roles_counted i h)) in
        record {
          few_elements = w.few_elements;
          element = m;
          row_end = omega (arith, block_row-end n r R e role m, w.links_long);
          child = omega (arith, w.few_terms);
        }
      where
        role_below : (q : Quantifier) → role_above (quantified q r x) ≤ R → r < R
        role_below existential h = omega arith
        role_below universal h = omega arith

  -- the columns so far are on the chain
  pub cell_le : (k : ℕ) (v : Columns) → k ≤ term_count s → WorkedTo s lg n A names links k v
      → (i : ℕ) → i < k → (e : ℕ) → e < n → cell_at v i e ≤ lg.steps
  cell_le k v l holds i h e g =
      rw (holds [] i h e g) (grade_at_le (grading lg (terms_of s)) (interpretation n A names links []) well_formed (on_chain (omega arith)) i
      (at-term i (omega arith)) e g)

  -- what they give for the next term is its grade
  pub grade_worked : (k : ℕ) (v : Columns) → k < term_count s → WorkedTo s lg n A names links k v → (e : ℕ) → e < n → (js : List ℕ)
      → grade_from lg n A names links v k (term_at s k) e ≡ grade_at (grading lg (terms_of s)) (interpretation n A names links js) k e
  grade_worked k v h holds e g js =
      at_elements-same (grading lg (terms_of s)) (interpretation n A names links js) k (term_at s k)
      (subst (Children k) (term-at s k h) (well_formed.ordered k (at-term k h))) (cell_at v) _ (holds js) e g
      ∙ sym (grade_at-local (grading lg (terms_of s)) (interpretation n A names links js) well_formed k (at-term k h) (term_at s k) (term-at s k h) e)

  -- ---- one cell more, and one column

  module _ (k e g : ℕ) (v u : Columns) (now : Stored v u k e g) where
    pub worked_kept : WorkedTo s lg n A names links k v → WorkedTo s lg n A names links k u
    worked_kept holds js i h f m = now.others i f (λ q. omega arith) ∙ holds js i h f m

    pub worked_cell : k < term_count s → e < n → WorkedTo s lg n A names links k v → WorkedIn s lg n A names links k e v
        → g ≡ grade_from lg n A names links v k (term_at s k) e → WorkedIn s lg n A names links k (e + 1) u
    worked_cell h l holds before q js =
        below_more (λ f. cell_at u k f ≡ grade_at (grading lg (terms_of s)) (interpretation n A names links js) k f) e
        (λ f m. now.others k f (λ r. omega arith) ∙ before js f m) (now.stored ∙ q ∙ grade_worked k v h holds e l js)

pub worked_column : (s : List ℕ) (lg : Logic) (n A : ℕ) (names links : List ℕ) (k : ℕ) (v : Columns) → WorkedTo s lg n A names links k v
    → WorkedIn s lg n A names links k n v → WorkedTo s lg n A names links (k + 1) v
worked_column s lg n A names links k v holds column js =
    below_more (λ i. (e : ℕ) → e < n → cell_at v i e ≡ grade_at (grading lg (terms_of s)) (interpretation n A names links js) i e) k (holds js) (column js)
