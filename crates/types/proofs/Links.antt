-- Laws of the link between two candidates: it is on the chain, and up to it everything is allowed, and nothing above it; it is the least of the bounds of
-- its role and of those above it.
-- Assumes nothing.
use mathlib.Core.Path.{◌≡◌, refl}
use mathlib.Core.Logic.Iff
use mathlib.Core.Logic.{inl, ◌↔◌}
use Prim.Native.Nat.{ℕ, ◌≤◌, ◌<◌}
use lib.ListN.{length}
use Rattle.chain.specs.Connectives.{Quantifier, existential, universal, through, Within}
use Rattle.semantics.specs.Terms.{term}
use Rattle.semantics.specs.Quantified.{quantified, EachOfRole}
use Rattle.semantics.specs.Interpretations.{Grading, WellFormed}
use Rattle.semantics.specs.Links.{Governs, Allows, alone}
use Rattle.semantics.proofs.Governs.{Transitive, alone-formed}
use Rattle.semantics.proofs.Links.{allows-each, between_le, between-most, between-allows, up_to_link}
use Rattle.semantics.proofs.Bounds.{between_under, between_one, between_rises}
use Rattle.types.specs.Candidates.{grade_in}
use Rattle.types.specs.Links.{link, own_bound, LeastOf}
use Rattle.types.proofs.Candidates.{grade_in_le}

module _ (G : Grading) (r c d : ℕ) where
  pub link_le : link G r c d ≤ G.steps
  link_le = between_le G r (grade_in G c) (grade_in G d)

  pub link-most : (s : ℕ) → s ≤ G.steps → Allows G r (grade_in G c) (grade_in G d) s → s ≤ link G r c d
  link-most = between-most G r (grade_in G c) (grade_in G d)

  pub bound_le : own_bound G r c d ≤ G.steps
  bound_le = between_le (alone G) r (grade_in G c) (grade_in G d)

  module _ (w : WellFormed G) where
    pub link-allows : (s : ℕ) → s ≤ G.steps → (s ≤ link G r c d) ↔ Allows G r (grade_in G c) (grade_in G d) s
    link-allows = up_to_link G r (grade_in G c) (grade_in G d) w (grade_in_le G w c) (grade_in_le G w d)

    -- a role's own bound, in the words of the document
    pub bound-each : (s : ℕ) → s ≤ G.steps → (s ≤ own_bound G r c d)
        ↔ (EachOfRole G.terms universal r (λ i x. grade_in G c i ≤ G.connectives.implication s (grade_in G d x))
        × EachOfRole G.terms existential r (λ i x. G.connectives.conjunction s (grade_in G d x) ≤ grade_in G c i))
    bound-each s h =
        Iff.trans (up_to_link (alone G) r (grade_in G c) (grade_in G d) (alone-formed G w) (grade_in_le G w c) (grade_in_le G w d) s h)
        (allows-each G r (grade_in G c) (grade_in G d) s)

    -- "the least of its own bound and those of all roles reachable upward"
    pub link-is_least : LeastOf (λ t. Governs G t r) (λ t. own_bound G t c d) (link G r c d)
    link-is_least = record {
      none_less = between_under G w r (grade_in G c) (grade_in G d) (grade_in_le G w c) (grade_in_le G w d);
      one_of_them = between_one G w r (grade_in G c) (grade_in G d) (grade_in_le G w c) (grade_in_le G w d);
    }

    -- it is not above the link of a role above
    pub link_rises : Transitive G → (s : ℕ) → Governs G s r → link G r c d ≤ link G s c d
    link_rises tr s g = between_rises G w tr r s (grade_in G c) (grade_in G d) (grade_in_le G w c) (grade_in_le G w d) g

    -- what a term of the role takes through the link does not pass its grade
    pub link-bounded : (i : ℕ) → i < length G.terms → (q : Quantifier) (x : ℕ) → term G.terms i ≡ quantified q r x
        → Within q (through G.connectives q (link G r c d) (grade_in G d x)) (grade_in G c i)
    link-bounded i l q x e =
        between-allows G r (grade_in G c) (grade_in G d) w (grade_in_le G w c) (grade_in_le G w d) i l q r x e (inl refl)
