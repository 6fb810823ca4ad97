-- The grade at an element obeys the table, and nothing else does.
-- Assumes nothing.
use mathlib.Core.Path.{◌≡◌, refl, sym, ap, ap₂, subst, ◌∙◌}
use Prim.Native.Nat.{ℕ, ◌≤◌, ◌<◌}
use native.Mathlib.Omega.{arith}
use lib.ListN.{length}
use Rattle.chain.specs.Connectives.{Quantifier, existential, universal, through, Within, over}
use Rattle.chain.proofs.Connectives.{within_antisymm, over-upper, over_least, over_attained}
use Rattle.chain.proofs.Search.{strong}
use Rattle.semantics.specs.Terms.{Term, name, not, and, or, some, all, top, bottom, term, Children}
use Rattle.semantics.specs.Interpretations.{Grading, WellFormed, Interpretation, OnChain, grade_at}
use Rattle.semantics.specs.Table.{TermIs, Table}
use Rattle.semantics.proofs.Interpretations.{taken, grade_at-local, grade_at-quantified, grade_at_le}

-- one of the values, and none passes it: what `over` comes to
abbrev Outermost : Quantifier → (f : ℕ → ℕ) (n x : ℕ) → Type 0
Outermost q f n x = ((i : ℕ) × (i < n) × (f i ≡ x)) × ((i : ℕ) → i < n → Within q (f i) x)

module _ (q : Quantifier) (N : ℕ) (f : ℕ → ℕ) (n : ℕ) (le : (i : ℕ) → i < n → f i ≤ N) where
  over_outermost : 0 < n → Outermost q f n (over q N f n)
  over_outermost h = (over_attained q N f n h le, over-upper q N f n)

  outermost_over : (x : ℕ) → Outermost q f n x → x ≡ over q N f n
  outermost_over x w =
      within_antisymm q (subst (λ (y : ℕ). Within q y (over q N f n)) w.0.2 (over-upper q N f n w.0.0 w.0.1))
      (over_least q N f n x (subst (λ (y : ℕ). y ≤ N) w.0.2 (le w.0.0 w.0.1)) w.1)

module _ (G : Grading) (w : WellFormed G) (I : Interpretation) (p : OnChain G.steps I) where
  -- what a quantified term takes is on the chain
  taken_le : (i : ℕ) → i < length G.terms → (q : Quantifier) (r x : ℕ) → x < i → (e : ℕ) → e < I.size → (f : ℕ) → f < I.size → taken G I q r x e f ≤ G.steps
  taken_le i l existential r x c e h f g = w.lawful.conjunction_le _ _ (p.links_le r e f h g) (grade_at_le G I w p x (omega arith) f g)
  taken_le i l universal r x c e h f g = w.lawful.implication_le _ _ (p.links_le r e f h g) (grade_at_le G I w p x (omega arith) f g)

  child : (i : ℕ) (t : Term) → TermIs G i t → Children i t
  child i t (l, e) = subst (Children i) e (w.ordered i l)

  pub grade_at-table : Table G I (grade_at G I)
  grade_at-table = record {
    follows = record {
      not_row = λ i c (l, t) e h. grade_at-local G I w i l (not c) t e;
      and_row = λ i c d (l, t) e h. grade_at-local G I w i l (and c d) t e;
      or_row = λ i c d (l, t) e h. grade_at-local G I w i l (or c d) t e;
      top_row = λ i (l, t) e h. grade_at-local G I w i l top t e;
      bottom_row = λ i (l, t) e h. grade_at-local G I w i l bottom t e;
    };
    name_row = λ i a (l, t) e h. grade_at-local G I w i l (name a) t e;
    some_row = λ i r c t e h.
        rw (grade_at-quantified G I w i t.0 existential r c t.1 e)
        (over_outermost existential G.steps (taken G I existential r c e) I.size (taken_le i t.0 existential r c (child i (some r c) t) e h) p.inhabited);
    all_row = λ i r c t e h.
        rw (grade_at-quantified G I w i t.0 universal r c t.1 e)
        (over_outermost universal G.steps (taken G I universal r c e) I.size (taken_le i t.0 universal r c (child i (all r c) t) e h) p.inhabited);
  }

  -- from the rows of term i, where those before it are known
  module _ (v : ℕ → ℕ → ℕ) (o : Table G I v) (i : ℕ) (l : i < length G.terms)
      (ih : (j : ℕ) → j < i → (e : ℕ) → e < I.size → v j e ≡ grade_at G I j e) where
    -- a quantified term: its child's grades are known
    quantified_only : (q : Quantifier) (r c e : ℕ) → c < i → e < I.size
        → Outermost q (λ f. through G.connectives q (I.links r e f) (v c f)) I.size (v i e) → v i e ≡ over q G.steps (taken G I q r c e) I.size
    quantified_only q r c e k h u =
        outermost_over q G.steps (taken G I q r c e) I.size (taken_le i l q r c k e h) (v i e)
        ((u.0.0, u.0.1, sym (same u.0.0 u.0.1) ∙ u.0.2), λ f g. subst (λ (y : ℕ). Within q y (v i e)) (same f g) (u.1 f g))
      where
        same : (f : ℕ) → f < I.size → through G.connectives q (I.links r e f) (v c f) ≡ taken G I q r c e f
        same f g = ap (through G.connectives q (I.links r e f)) (ih c k f g)

    row_only : (t : Term) → term G.terms i ≡ t → (e : ℕ) → e < I.size → v i e ≡ grade_at G I i e
    row_only (name a) t e h = o.name_row i a (l, t) e h ∙ sym (grade_at-local G I w i l (name a) t e)
    row_only (not c) t e h =
        o.follows.not_row i c (l, t) e h ∙ ap G.connectives.negation (ih c (child i (not c) (l, t)) e h) ∙ sym (grade_at-local G I w i l (not c) t e)
    row_only (and c d) t e h =
        let k = child i (and c d) (l, t) in
        o.follows.and_row i c d (l, t) e h ∙ ap₂ G.connectives.conjunction (ih c k.0 e h) (ih d k.1 e h) ∙ sym (grade_at-local G I w i l (and c d) t e)
    row_only (or c d) t e h =
        let k = child i (or c d) (l, t) in
        o.follows.or_row i c d (l, t) e h ∙ ap₂ G.connectives.disjunction (ih c k.0 e h) (ih d k.1 e h) ∙ sym (grade_at-local G I w i l (or c d) t e)
    row_only (some r c) t e h =
        quantified_only existential r c e (child i (some r c) (l, t)) h (o.some_row i r c (l, t) e h) ∙ sym (grade_at-quantified G I w i l existential r c t e)
    row_only (all r c) t e h =
        quantified_only universal r c e (child i (all r c) (l, t)) h (o.all_row i r c (l, t) e h) ∙ sym (grade_at-quantified G I w i l universal r c t e)
    row_only top t e h = o.follows.top_row i (l, t) e h ∙ sym (grade_at-local G I w i l top t e)
    row_only bottom t e h = o.follows.bottom_row i (l, t) e h ∙ sym (grade_at-local G I w i l bottom t e)

  pub table_only : (v : ℕ → ℕ → ℕ) → Table G I v → (i : ℕ) → i < length G.terms → (e : ℕ) → e < I.size → v i e ≡ grade_at G I i e
  table_only v o =
      strong (λ i. i < length G.terms → (e : ℕ) → e < I.size → v i e ≡ grade_at G I i e)
      (λ i ih l e h. row_only v o i l (λ j g. ih j g (omega arith)) (term G.terms i) refl e h)
