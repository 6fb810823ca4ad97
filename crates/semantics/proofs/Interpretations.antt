-- Laws of the grade at an element: the table of document 01 kind by kind, that grades are on the chain, and that only they obey the table.
-- Assumes nothing.
use mathlib.Core.Path.{◌≡◌, refl, sym, ap, ap₂, ◌∙◌}
use mathlib.Core.List.{List}
use Prim.Native.Nat.{ℕ, ◌≤◌, ◌<◌}
use native.Mathlib.Omega.{arith}
use lib.ListN.{length}
use Rattle.chain.specs.Connectives.{Quantifier, existential, universal, through, over}
use Rattle.chain.proofs.Connectives.{zadeh-lawful, over_le, over-same}
use Rattle.chain.proofs.Search.{strong}
use Rattle.semantics.specs.Terms.{Term, name, not, and, or, some, all, top, bottom, term, Children, Ordered, local}
use Rattle.semantics.specs.Quantified.{quantified}
use Rattle.semantics.specs.Roles.{RolePair}
use Rattle.semantics.specs.Interpretations.{Grading, graded, WellFormed, Interpretation, OnChain, at_elements, grade_at}
use Rattle.semantics.proofs.Terms.{value-local}

-- with the base connectives, ordered terms are all that the theory asks
pub graded_well_formed : (N : ℕ) (ts : List Term) (ps : List RolePair) → Ordered ts → WellFormed (graded N ts ps)
graded_well_formed N ts ps o = record { lawful = zadeh-lawful N; ordered = o }

-- what a quantified term with role r and child x takes at e from element f
abbrev pub taken : Grading → Interpretation → Quantifier → (r x e f : ℕ) → ℕ
taken G I q r x e f = through G.connectives q (I.links r e f) (grade_at G I x f)

-- a term's grade at an element looks at its children's grades, at the elements only
pub at_elements-same : (G : Grading) (I : Interpretation) (i : ℕ) (t : Term) → Children i t → (v u : ℕ → ℕ → ℕ)
    → ((j : ℕ) → j < i → (e : ℕ) → e < I.size → v j e ≡ u j e)
    → (e : ℕ) → e < I.size → local (at_elements G I) i t v e ≡ local (at_elements G I) i t u e
at_elements-same G I i (name a) c v u same e h = refl
at_elements-same G I i (not x) c v u same e h = ap G.connectives.negation (same x c e h)
at_elements-same G I i (and x y) c v u same e h = ap₂ G.connectives.conjunction (same x c.0 e h) (same y c.1 e h)
at_elements-same G I i (or x y) c v u same e h = ap₂ G.connectives.disjunction (same x c.0 e h) (same y c.1 e h)
at_elements-same G I i (some r x) c v u same e h =
    over-same existential G.steps (λ f. G.connectives.conjunction (I.links r e f) (v x f)) (λ f. G.connectives.conjunction (I.links r e f) (u x f)) I.size
    (λ f g. ap (G.connectives.conjunction (I.links r e f)) (same x c f g))
at_elements-same G I i (all r x) c v u same e h =
    over-same universal G.steps (λ f. G.connectives.implication (I.links r e f) (v x f)) (λ f. G.connectives.implication (I.links r e f) (u x f)) I.size
    (λ f g. ap (G.connectives.implication (I.links r e f)) (same x c f g))
at_elements-same G I i top c v u same e h = refl
at_elements-same G I i bottom c v u same e h = refl

module _ (G : Grading) (I : Interpretation) (w : WellFormed G) where
  -- the table's row for the kind of term i
  pub grade_at-local : (i : ℕ) → i < length G.terms → (t : Term) → term G.terms i ≡ t → (e : ℕ) → grade_at G I i e ≡ local (at_elements G I) i t (grade_at G I) e
  unfolding grade_at
  grade_at-local i l t h e =
      ap (λ (v : ℕ → ℕ). v e) (value-local (at_elements G I) G.terms w.ordered i l ∙ ap (λ (s : Term). local (at_elements G I) i s (grade_at G I)) h)

  pub grade_at-quantified : (i : ℕ) → i < length G.terms → (q : Quantifier) (r x : ℕ) → term G.terms i ≡ quantified q r x → (e : ℕ)
      → grade_at G I i e ≡ over q G.steps (taken G I q r x e) I.size
  grade_at-quantified i l existential r x h e = grade_at-local i l (some r x) h e
  grade_at-quantified i l universal r x h e = grade_at-local i l (all r x) h e

  pub grade_at_le : OnChain G.steps I → (i : ℕ) → i < length G.terms → (e : ℕ) → e < I.size → grade_at G I i e ≤ G.steps
  grade_at_le p =
      strong (λ i. i < length G.terms → (e : ℕ) → e < I.size → grade_at G I i e ≤ G.steps) (λ i ih l e h.
      rw (grade_at-local i l (term G.terms i) refl e) (go i (term G.terms i) (w.ordered i l) (λ j g. ih j g (omega arith)) e h))
    where
      go : (i : ℕ) (t : Term) → Children i t → ((j : ℕ) → j < i → (e : ℕ) → e < I.size → grade_at G I j e ≤ G.steps) → (e : ℕ) → e < I.size
          → local (at_elements G I) i t (grade_at G I) e ≤ G.steps
      go i (name a) c ih e h = p.names_le a e h
      go i (not x) c ih e h = w.lawful.negation_le _ (ih x c e h)
      go i (and x y) c ih e h = w.lawful.conjunction_le _ _ (ih x c.0 e h) (ih y c.1 e h)
      go i (or x y) c ih e h = w.lawful.disjunction_le _ _ (ih x c.0 e h) (ih y c.1 e h)
      go i (some r x) c ih e h =
          over_le existential G.steps (taken G I existential r x e) I.size (λ f g. w.lawful.conjunction_le _ _ (p.links_le r e f h g) (ih x c f g))
      go i (all r x) c ih e h =
          over_le universal G.steps (taken G I universal r x e) I.size (λ f g. w.lawful.implication_le _ _ (p.links_le r e f h g) (ih x c f g))
      go i top c ih e h = omega arith
      go i bottom c ih e h = omega arith

  -- whoever obeys the table at every element is the grade
  pub grade_at_unique : (v : ℕ → ℕ → ℕ)
      → ((i : ℕ) → i < length G.terms → (e : ℕ) → e < I.size → v i e ≡ local (at_elements G I) i (term G.terms i) v e)
      → (i : ℕ) → i < length G.terms → (e : ℕ) → e < I.size → v i e ≡ grade_at G I i e
  grade_at_unique v obeys =
      strong (λ i. i < length G.terms → (e : ℕ) → e < I.size → v i e ≡ grade_at G I i e) (λ i ih l e h.
      obeys i l e h ∙ at_elements-same G I i (term G.terms i) (w.ordered i l) v (grade_at G I) (λ j g. ih j g (omega arith)) e h
      ∙ sym (grade_at-local i l (term G.terms i) refl e))
