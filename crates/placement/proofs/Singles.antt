-- A book and the one in which its claims for several individuals are written out, one for each of them, have the same placement and the same outcome.
-- Assumes nothing.
use mathlib.Core.Path.{◌≡◌, refl, ap, subst, ◌∙◌}
use mathlib.Core.Logic.{◌↔◌}
use mathlib.Core.Option.{Option, none, some}
use mathlib.Core.List.{List, [], ◌∷◌}
use Prim.Native.Nat.{ℕ}
use Rattle.semantics.specs.Books.{Book, individuals}
use Rattle.semantics.proofs.Claims.{singles-each, written, written-individuals}
use Rattle.placement.specs.Dictionary.{Finds}
use Rattle.elimination.specs.Survivors.{survivors_of}
use Rattle.placement.specs.Outcome.{seat, MembershipMet, HoldsMembership, Holds, HoldsAt, placement, outcome_of, outcome}
use Rattle.placement.proofs.Dictionary.{finds_same, finds_iff}
use Rattle.placement.proofs.Outcome.{placement_finds}

module _ (B : Book) where
  written-holds : (s : ℕ → ℕ) → Holds (written B) s ↔ Holds B s
  written-holds s =
      let w = singles-each (HoldsMembership B s) (λ q j. MembershipMet B.grading (s j) q) (λ q j. (λ h. h.0, λ h. (h, tt))) B.memberships in
      (λ h. (w.0 h.0, h.1), λ h. (w.1 h.0, h.1))

  pub written-placement : placement (written B) ≡ placement B
  written-placement =
      finds_same (survivors_of B) (individuals B) (HoldsAt B) (placement (written B)) (placement B)
      (finds_iff (survivors_of B) (individuals B) (HoldsAt (written B)) (HoldsAt B) (λ p. written-holds (seat p)) (placement (written B))
      (subst (λ (n : ℕ). Finds (survivors_of B) n (HoldsAt (written B)) (placement (written B))) (written-individuals B) (placement_finds (written B))))
      (placement_finds B)

  pub written-outcome : outcome (written B) ≡ outcome B
  unfolding outcome
  written-outcome = go (survivors_of B) (placement (written B)) ∙ ap (outcome_of B (survivors_of B)) written-placement
    where
      go : (xs : List ℕ) (o : Option (List ℕ)) → outcome_of (written B) xs o ≡ outcome_of B xs o
      go [] o = refl
      go (x ∷ xs) none = refl
      go (x ∷ xs) (some p) = refl
