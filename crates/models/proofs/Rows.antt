-- Laws of the interpretation by rows: a name's grade in a row, and that the interpretation by rows agrees with that of the types.
-- Assumes nothing.
use mathlib.Core.Path.{◌≡◌, refl, sym, ap, ◌∙◌}
use mathlib.Core.Logic.{inl, inr, ⊎_elim}
use mathlib.Core.List.{List, ◌++◌, flat_map}
use Prim.Native.Nat.{ℕ, ◌*◌, ◌≤◌, ◌<◌}
use native.Mathlib.Omega.{arith}
use lib.ListN.{length, get_or, drop}
use lib.Dec.{eqb}
use Rattle.chain.specs.Decisions.{Tells}
use Rattle.chain.specs.Search.{First}
use Rattle.chain.specs.Lists.{table, index}
use Rattle.chain.proofs.Decisions.{tells_map, tells_eq}
use Rattle.chain.proofs.Lists.{length-table}
use Rattle.semantics.specs.Terms.{Term, name, term}
use Rattle.semantics.specs.Interpretations.{Grading, Agree}
use Rattle.types.specs.Candidates.{named?, bearer, grade_in}
use Rattle.sections.specs.Terms.{term_at, term_count, terms_of, TermsRight}
use Rattle.sections.specs.Values.{as_term}
use Rattle.sections.specs.declared.Quantifier.TheVariants.{Existential, Universal}
use Rattle.sections.specs.declared.Term.{Term as Value}
use Rattle.sections.specs.declared.Term.TheVariants.{Name, Not, And, Or, Quantified, Top, Bottom}
use Rattle.sections.proofs.Terms.{term-at, terms-ordered}
use Rattle.gradings.specs.Gradings.{grading}
use Rattle.gradings.specs.declared.Logic.{Logic}
use Rattle.grades.specs.Rows.{row_at}
use Rattle.grades.proofs.Rows.{rows-between}
use Rattle.shapes.specs.Layout.{links_at, individuals_at, end_at, Indexable}
use Rattle.sheets.specs.Writing.{sheet_bytes}
use Rattle.shapes.specs.declared.Shape.{Shape}
use Rattle.shapes.proofs.Bounds.{few-end}
use Rattle.chain.proofs.Blocks.{length_blocks}
use Rattle.sheets.proofs.Writing.{sheet-same}
use Rattle.models.specs.Rows.{Small, model_of, HoldsRows, name_in, link_in, rows_in, names_by, square_by, links_by, head_by}
use Rattle.models.proofs.Listing.{first_found, first_missed}
use Rattle.models.proofs.Filling.{pasted, paste_four}

-- ---- a term that is a name

module _ (s : List ℕ) (i a : ℕ) (h : i < term_count s) where
  pub name_tells : (b x : ℕ) → name b ≡ term_at s i → x ≡ b → Tells (eqb x a) (term (terms_of s) i ≡ name a)
  name_tells b x t q =
      tells_map (eqb x a) (λ e. term-at s i h ∙ sym t ∙ ap name (sym q ∙ e)) (λ e. q ∙ same (t ∙ sym (term-at s i h) ∙ e)) (tells_eq x a)
    where
      same : name b ≡ name a → b ≡ a
      same e = cc

  pub name-other : (t : Value) → as_term t ≡ term_at s i → ((b : ℕ) → ¬ (t ≡ Name b)) → ¬ (term (terms_of s) i ≡ name a)
  name-other t e n f = go t n (e ∙ sym (term-at s i h) ∙ f)
    where
      go : (v : Value) → ((b : ℕ) → ¬ (v ≡ Name b)) → ¬ (as_term v ≡ name a)
      go (Name b) n _ = n b refl
      go (Not c) _ f = cc
      go (And c d) _ f = cc
      go (Or c d) _ f = cc
      go (Quantified Existential r c) _ f = cc
      go (Quantified Universal r c) _ f = cc
      go Top _ f = cc
      go Bottom _ f = cc

-- ---- a name's grade in a row

module _ (ts : List Term) (a : ℕ) (row : List ℕ) where
  pub name-found : (i : ℕ) → i < length ts → term ts i ≡ name a → ((j : ℕ) → j < i → ¬ (term ts j ≡ name a)) → get_or row i 0 ≡ name_in ts a row
  unfolding name_in
  name-found i l e before = first_found (named? ts a) (length ts) (λ k. get_or row k 0) 0 (bearer ts a) i l e before

  pub name_missed : ((i : ℕ) → i < length ts → ¬ (term ts i ≡ name a)) → 0 ≡ name_in ts a row
  unfolding name_in
  name_missed h = first_missed (named? ts a) (length ts) (λ k. get_or row k 0) 0 (bearer ts a) h

-- ---- the interpretation by rows

module _ (lg : Logic) (s : List ℕ) (ok : TermsRight s) (rows xs seats : List ℕ) (holds : HoldsRows (grading lg (terms_of s)) xs (length xs) rows) where
  abbrev G : Grading
  G = grading lg (terms_of s)

  name_agrees : (a e : ℕ) → e < length xs → (w : First (named? (terms_of s) a) (length (terms_of s)))
      → ⊎_elim (λ u. get_or (row_at rows e) u.0 0) (λ _. 0) w ≡ ⊎_elim (λ u. grade_in G (get_or xs e 0) u.0) (λ _. 0) w
  name_agrees a e h (inl u) = holds e h u.0 u.1
  name_agrees a e h (inr f) = refl

  rows_agree : (A R I : ℕ) → Agree A R I (model_of lg s xs seats) (rows_in lg s rows xs seats)
  unfolding name_in
  rows_agree A R I = record {
    size_same = refl;
    names_same = λ a e _ h. name_agrees a e h (bearer (terms_of s) a);
    links_same = λ r e f _ h g. rows-between lg (terms_of s) (terms-ordered s ok) r (get_or xs e 0) (get_or xs f 0) (row_at rows e) (row_at rows f) (holds e h) (holds f g);
    element_same = λ j _. refl;
  }

  -- so its sheet, at the front of a list, is that of the types
  pub rows-sheet : (N A R I : ℕ) (l rest : List ℕ) → l ≡ sheet_bytes N A R I (rows_in lg s rows xs seats) ++ rest
      → l ≡ sheet_bytes N A R I (model_of lg s xs seats) ++ rest
  rows-sheet N A R I l rest e = e ∙ ap (λ (b : List ℕ). b ++ rest) (sheet-same N A R I _ _ (rows_agree A R I))

-- ---- the layout

module _ (p : Shape) (few : Small p) where
  small_end : end_at p ≤ 33812
  small_end = few-end p few.elements_le few.names_le few.roles_le few.individuals_le

  pub small_indexable : Indexable p
  small_indexable = omega (arith, small_end)

  pub small_offsets : (links_at p < 65536) × (individuals_at p < 65536)
  small_offsets = omega (arith, small_end)

-- ---- the bodies

module _ (ts : List Term) (rows : List ℕ) (A : ℕ) where
  -- one element's names
  abbrev pub named_row : ℕ → List ℕ
  named_row e = table (λ a. name_in ts a (row_at rows e)) A

  pub length-name_row : (e : ℕ) → length (named_row e) ≡ A
  length-name_row e = length-table (λ a. name_in ts a (row_at rows e)) A

module _ (lg : Logic) (ts : List Term) (rows : List ℕ) (n : ℕ) where
  -- one element's links for a role
  abbrev pub link_row : ℕ → ℕ → List ℕ
  link_row r e = table (λ f. link_in lg ts rows r e f) n

  pub length-link_row : (r e : ℕ) → length (link_row r e) ≡ n
  length-link_row r e = length-table (λ f. link_in lg ts rows r e f) n

  pub length-square : (r : ℕ) → length (square_by lg ts rows n r) ≡ n * n
  unfolding square_by
  length-square r = length_blocks (link_row r) n (length-link_row r) 0 n

  pub length-links_by : (R : ℕ) → length (links_by lg ts rows n R) ≡ R * (n * n)
  unfolding links_by
  length-links_by R = length_blocks (square_by lg ts rows n) (n * n) length-square 0 R

length-names_by : (ts : List Term) (rows : List ℕ) (A n : ℕ) → length (names_by ts rows A n) ≡ n * A
unfolding names_by
length-names_by ts rows A n = length_blocks (named_row ts rows A) A (length-name_row ts rows A) 0 n

length-head_by : (N : ℕ) (p : Shape) → length (head_by N p) ≡ 12
unfolding flat_map
length-head_by N p = refl

-- ---- the whole sheet

-- the head and the bodies are those of the interpretation by rows
pub sheet_by_lem : (N : ℕ) (lg : Logic) (s rows xs seats : List ℕ) (p : Shape) → p.elements ≡ length xs → p.individuals ≡ length seats
    → head_by N p ++ names_by (terms_of s) rows p.names p.elements ++ links_by lg (terms_of s) rows p.elements p.roles
    ++ table (λ j. index xs (get_or seats j 0)) (length seats) ≡ sheet_bytes N p.names p.roles p.individuals (rows_in lg s rows xs seats)
unfolding sheet_bytes names_by links_by square_by
sheet_by_lem N lg s rows xs seats p e i = rw (e, i)

-- .. and the code's four stretches make it
module _ (N : ℕ) (lg : Logic) (s rows xs seats : List ℕ) (p : Shape) (elements : p.elements ≡ length xs) (individuals : p.individuals ≡ length seats) where
  pub sheet-written : (d h ns ls js : List ℕ) (l i e : ℕ) → h ≡ head_by N p → ns ≡ names_by (terms_of s) rows p.names p.elements
      → ls ≡ links_by lg (terms_of s) rows p.elements p.roles → js ≡ table (λ j. index xs (get_or seats j 0)) (length seats) → l ≡ links_at p → i ≡ individuals_at p
      → e ≡ end_at p → pasted (pasted (pasted (pasted d 0 12 h) 12 l ns) l i ls) i e js
      ≡ sheet_bytes N p.names p.roles p.individuals (rows_in lg s rows xs seats) ++ drop (end_at p) d
  sheet-written d h ns ls js l i e eh en el ej ql qi qe =
      paste_four d h ns ls js l i e (ap length eh ∙ length-head_by N p)
      (ap length en ∙ length-names_by (terms_of s) rows p.names p.elements ∙ omega arith)
      (ap length el ∙ length-links_by lg (terms_of s) rows p.elements p.roles ∙ omega arith) (omega arith) (omega arith) (omega arith)
      ∙ rw (eh, en, el, ej, qe) (ap (λ (b : List ℕ). b ++ drop (end_at p) d) (sheet_by_lem N lg s rows xs seats p elements individuals))
