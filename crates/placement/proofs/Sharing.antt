-- A book whose terms are renumbered so that the places stay what they are has the same placement and the same outcome.
-- Assumes nothing.
use mathlib.Core.Path.{◌≡◌, refl, sym, ap, ap₂, subst, ◌∙◌}
use mathlib.Core.Logic.{◌↔◌}
use mathlib.Core.Option.{Option, none, some}
use mathlib.Core.List.{List, [], ◌∷◌}
use Prim.Native.Nat.{ℕ, ◌<◌, max}
use lib.ListN.{length}
use Rattle.chain.specs.Lists.{Each, highest}
use Rattle.chain.proofs.Lists.{each_map, each_map₂, each_mapped, highest_mapped}
use Rattle.semantics.specs.Terms.{Term}
use Rattle.semantics.specs.Interpretations.{WellFormed}
use Rattle.semantics.specs.Books.{Book, Valid, MembershipClaim, Claimed, membership_individuals, link_individuals, individuals}
use Rattle.types.specs.Candidates.{grade_in}
use Rattle.types.specs.Sharing.{renumber_claim, with_terms, renumbered}
use Rattle.types.proofs.Sharing.{Renumbered, grade-renumbered, link-renumbered}
use Rattle.elimination.specs.Survivors.{survivors_of}
use Rattle.elimination.proofs.Sharing.{survivors-renumbered}
use Rattle.placement.specs.Dictionary.{Finds}
use Rattle.placement.specs.Outcome.{seat, HoldsMembership, Holds, HoldsAt, placement, outcome_of, outcome}
use Rattle.placement.proofs.Dictionary.{finds_same, finds_iff}
use Rattle.placement.proofs.Outcome.{placement_finds}

module _ (B : Book) (us : List Term) (f : ℕ → ℕ) (v : Valid B) (u : WellFormed (with_terms B.grading us)) (re : Renumbered f B.grading.terms us) where
  abbrev C : Book
  C = renumbered f us B

  grade : (c i : ℕ) → i < length B.grading.terms → grade_in B.grading c i ≡ grade_in C.grading c (f i)
  grade = grade-renumbered B.grading us f v.well_formed u re

  same-individuals : individuals C ≡ individuals B
  unfolding individuals
  same-individuals = ap (λ (n : ℕ). max n (highest link_individuals B.links)) (highest_mapped membership_individuals (renumber_claim f) B.memberships)

  module _ (s : ℕ → ℕ) where
    -- a claim of the renumbered book, as one of the book itself
    abbrev There : MembershipClaim → Type 0
    There q = HoldsMembership C s (renumber_claim f q)

    claims_mapped : Each (HoldsMembership C s) C.memberships ↔ Each There B.memberships
    claims_mapped = each_mapped (HoldsMembership C s) (renumber_claim f) There (λ q. (λ z. z, λ z. z)) B.memberships

    holds_there : Holds B s → Holds C s
    holds_there (m, l) = (
      claims_mapped.1 (each_map₂ (λ q k h. each_map (λ j g. subst (Claimed q.sense q.grade) (grade (s j) q.term k) g) q.members h) B.memberships v.terms_in_range m),
      each_map (λ q h. rw (← link-renumbered B.grading us f v.well_formed u re q.role (s q.source) (s q.target)) h) B.links l,
    )

    holds-back : Holds C s → Holds B s
    holds-back (m, l) = (
      each_map₂ (λ q k h. each_map (λ j g. subst (Claimed q.sense q.grade) (sym (grade (s j) q.term k)) g) q.members h) B.memberships v.terms_in_range (claims_mapped.0 m),
      each_map (λ q h. rw (link-renumbered B.grading us f v.well_formed u re q.role (s q.source) (s q.target)) h) B.links l,
    )

  pub placement-renumbered : placement B ≡ placement C
  placement-renumbered =
      finds_same (survivors_of B) (individuals B) (HoldsAt B) (placement B) (placement C) (placement_finds B)
      (finds_iff (survivors_of B) (individuals B) (HoldsAt C) (HoldsAt B) (λ p. (holds-back (seat p), holds_there (seat p))) (placement C)
      (subst (λ (n : ℕ). Finds (survivors_of B) n (HoldsAt C) (placement C)) same-individuals
      (subst (λ (xs : List ℕ). Finds xs (individuals C) (HoldsAt C) (placement C)) (sym (survivors-renumbered B us f v u re)) (placement_finds C))))

  pub outcome-renumbered : outcome B ≡ outcome C
  unfolding outcome
  outcome-renumbered = ap₂ (outcome_of B) (survivors-renumbered B us f v u re) placement-renumbered ∙ go (survivors_of C) (placement C)
    where
      go : (xs : List ℕ) (o : Option (List ℕ)) → outcome_of B xs o ≡ outcome_of C xs o
      go [] o = refl
      go (x ∷ xs) none = refl
      go (x ∷ xs) (some p) = refl
