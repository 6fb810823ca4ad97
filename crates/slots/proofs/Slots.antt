-- Laws of slots: a slot's child is a term, and the slots allow a link where the terms do.
-- Assumes nothing.
use mathlib.Core.Path.{◌≡◌, sym, ap, subst, ◌∙◌}
use mathlib.Core.Logic.{◌↔◌}
use mathlib.Core.List.{List}
use Prim.Native.Nat.{ℕ, ◌≤◌, ◌<◌}
use native.Mathlib.Omega.{arith}
use lib.ListN.{length}
use Rattle.chain.specs.Connectives.{Quantifier, existential, universal, Permits}
use Rattle.chain.proofs.Lists.{each_at, each-highest}
use Rattle.semantics.specs.Terms.{Term, bottom, term, Ordered}
use Rattle.semantics.specs.Quantified.{quantified}
use Rattle.semantics.specs.Interpretations.{Grading}
use Rattle.semantics.specs.Links.{Governs, Allows}
use Rattle.semantics.proofs.Terms.{child_lt}
use Rattle.semantics.proofs.Quantified.{quantified_alike}
use Rattle.semantics.specs.Books.{role_above}
use Rattle.sections.specs.Terms.{terms_of, TermsRight}
use Rattle.sections.proofs.Terms.{roles_few}
use Rattle.slots.specs.Slots.{slot_count, slot_role, slot_child, slot_term, slot_quantifier, SlotsOf, SlotAllows}

pub slot_child_lem : (ts : List Term) → Ordered ts → (slots : List ℕ) → SlotsOf ts slots → (q : ℕ) → q < slot_count slots → slot_child slots q < length ts
slot_child_lem ts o slots S q h =
    let l = S.terms q h in
    omega (arith, child_lt ts o (slot_term slots q) l (slot_quantifier slots q) (slot_role slots q) (slot_child slots q) (S.are q h))

-- and its role is below 8
pub slot_role_lem : (ts : List ℕ) → TermsRight ts → (slots : List ℕ) → SlotsOf (terms_of ts) slots → (q : ℕ) → q < slot_count slots → slot_role slots q < 8
slot_role_lem ts ok slots S q h =
    go (slot_quantifier slots q)
    ((each_at (λ t. role_above t ≤ 8) (terms_of ts) bottom).0 (each-highest role_above (terms_of ts) 8 (roles_few ts ok)) (slot_term slots q) (S.terms q h))
    (S.are q h)
  where
    go : (k : Quantifier) → role_above (term (terms_of ts) (slot_term slots q)) ≤ 8
        → term (terms_of ts) (slot_term slots q) ≡ quantified k (slot_role slots q) (slot_child slots q) → slot_role slots q < 8
    go existential w e = subst (λ (t : Term). role_above t ≤ 8) e w
    go universal w e = subst (λ (t : Term). role_above t ≤ 8) e w

module _ (G : Grading) (s : List ℕ) (S : SlotsOf G.terms s) (r : ℕ) (own child : ℕ → ℕ) (g : ℕ) where
  pub slots_allow : ((j : ℕ) → j < slot_count s → SlotAllows G s r g j (child (slot_child s j)) (own (slot_term s j))) ↔ Allows G r own child g
  slots_allow = (from, to)
    where
      from : ((j : ℕ) → j < slot_count s → SlotAllows G s r g j (child (slot_child s j)) (own (slot_term s j))) → Allows G r own child g
      from f i l k t x e w =
          let u = S.onto i l k t x e in
          let a = quantified_alike (slot_quantifier s u.0) k (slot_role s u.0) t (slot_child s u.0) x
          (sym (S.are u.0 u.1) ∙ ap (term G.terms) u.2 ∙ e) in
          subst (λ (z : Quantifier). Permits G.connectives z g (child x) (own i)) a.0
          (subst (λ (z : ℕ). Permits G.connectives (slot_quantifier s u.0) g (child z) (own i)) a.2
          (subst (λ (z : ℕ). Permits G.connectives (slot_quantifier s u.0) g (child (slot_child s u.0)) (own z)) u.2
          (f u.0 u.1 (subst (λ (z : ℕ). Governs G z r) (sym a.1) w))))

      to : Allows G r own child g → (j : ℕ) → j < slot_count s → SlotAllows G s r g j (child (slot_child s j)) (own (slot_term s j))
      to f j h w = f (slot_term s j) (S.terms j h) (slot_quantifier s j) (slot_role s j) (slot_child s j) (S.are j h) w
