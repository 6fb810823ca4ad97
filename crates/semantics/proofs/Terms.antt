-- Laws of evaluation: the value of each term follows from those of its children, and nothing else does so. And a book with a further term.
-- Assumes nothing.
use mathlib.Core.Path.{◌≡◌, refl, sym, ap, ap₂, subst, ◌∙◌}
use mathlib.Core.List.{List, [], ◌∷◌, ◌++◌}
use Prim.Native.Nat.{ℕ, zero, suc, ◌<◌}
use native.Mathlib.Nat.{not-suc-le-zero}
use native.Mathlib.Omega.{arith}
use lib.ListN.{length}
use Rattle.chain.specs.Connectives.{Quantifier, existential, universal}
use Rattle.chain.proofs.Search.{strong}
use Rattle.semantics.specs.Terms.{Term, name, not, and, or, some, all, top, bottom, term, Children, Ordered, Carrier, local, deep, value}
use Rattle.semantics.specs.Quantified.{quantified}
use Rattle.semantics.specs.Books.{Book}

-- the child of a quantified term stands before it
pub child_lt : (ts : List Term) → Ordered ts → (i : ℕ) → i < length ts → (q : Quantifier) (r x : ℕ) → term ts i ≡ quantified q r x → x < i
child_lt ts o i l existential r x e = subst (Children i) e (o i l)
child_lt ts o i l universal r x e = subst (Children i) e (o i l)

module _ {X : Type 0} (A : Carrier X) where
  -- a term looks at its children only
  pub local_same : (i : ℕ) (t : Term) → Children i t → (v w : ℕ → X) → ((j : ℕ) → j < i → v j ≡ w j) → local A i t v ≡ local A i t w
  local_same i (name a) h v w e = refl
  local_same i (not c) h v w e = ap A.at_not (e c h)
  local_same i (and c d) h v w e = ap₂ A.at_and (e c h.0) (e d h.1)
  local_same i (or c d) h v w e = ap₂ A.at_or (e c h.0) (e d h.1)
  local_same i (some r c) h v w e = ap (A.at_some i r) (e c h)
  local_same i (all r c) h v w e = ap (A.at_all i r) (e c h)
  local_same i top h v w e = refl
  local_same i bottom h v w e = refl

  module _ (ts : List Term) (o : Ordered ts) where
    deep_enough : (m n i : ℕ) → i < m → i < n → i < length ts → deep A ts m i ≡ deep A ts n i
    unfolding deep
    deep_enough zero n i h g l = absurd (not-suc-le-zero h)
    deep_enough (suc m) zero i h g l = absurd (not-suc-le-zero g)
    deep_enough (suc m) (suc n) i h g l =
        local_same i (term ts i) (o i l) (deep A ts m) (deep A ts n) (λ j k. deep_enough m n j (omega arith) (omega arith) (omega arith))

    pub value-local : (i : ℕ) → i < length ts → value A ts i ≡ local A i (term ts i) (value A ts)
    unfolding value deep
    value-local i l =
        local_same i (term ts i) (o i l) (deep A ts i) (value A ts) (λ j k. deep_enough i (suc j) j (omega arith) (omega arith) (omega arith))

    pub value_unique : (v : ℕ → X) → ((i : ℕ) → i < length ts → v i ≡ local A i (term ts i) v) → (i : ℕ) → i < length ts → v i ≡ value A ts i
    value_unique v e =
        strong (λ i. i < length ts → v i ≡ value A ts i) (λ i ih l.
        e i l ∙ local_same i (term ts i) (o i l) v (value A ts) (λ j k. ih j k (omega arith)) ∙ sym (value-local i l))

-- the book with a further, last term
abbrev pub with_term : Term → Book → Book
with_term t B = record {
  grading = record { steps = B.grading.steps; connectives = B.grading.connectives; terms = B.grading.terms ++ (t ∷ []); above = B.grading.above };
  rules = B.rules;
  pairs = B.pairs;
  memberships = B.memberships;
  links = B.links;
}
