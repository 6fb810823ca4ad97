-- When a candidate is a witness, for every lawful logic: some link at which the term reaches its grade is allowed.
-- Assumes nothing.
use mathlib.Core.Path.{◌≡◌, subst}
use mathlib.Core.Logic.{◌↔◌}
use Prim.Native.Nat.{ℕ, ◌≤◌, ◌<◌}
use native.Mathlib.Nat.{le_refl}
use lib.ListN.{length}
use Rattle.chain.specs.Connectives.{Quantifier, through, Within}
use Rattle.chain.proofs.Connectives.{within_refl, within_trans, within_antisymm, through_mono}
use Rattle.semantics.specs.Terms.{term}
use Rattle.semantics.specs.Quantified.{quantified}
use Rattle.semantics.specs.Interpretations.{Grading, WellFormed}
use Rattle.semantics.specs.Links.{Allows}
use Rattle.semantics.proofs.Links.{child_in}
use Rattle.types.specs.Candidates.{grade_in}
use Rattle.types.specs.Links.{link}
use Rattle.types.proofs.Candidates.{grade_in_le}
use Rattle.types.proofs.Links.{link_le, link-most, link-allows, link-bounded}
use Rattle.elimination.specs.Survivors.{Witnesses}

module _ (G : Grading) (w : WellFormed G) (c d i : ℕ) (l : i < length G.terms) (q : Quantifier) (r x : ℕ) (e : term G.terms i ≡ quantified q r x) where
  -- a link of grade s is allowed, and through it the term reaches its grade
  abbrev pub Through : ℕ → Type 0
  Through s = (s ≤ G.steps) × Within q (grade_in G c i) (through G.connectives q s (grade_in G d x)) × Allows G r (grade_in G c) (grade_in G d) s

  pub witnesses_through : Witnesses G c i q r x d ↔ ((s : ℕ) × Through s)
  witnesses_through = (
    λ h. (
      link G r c d,
      (
        link_le G r c d,
        subst (Within q (grade_in G c i)) h (within_refl q (grade_in G c i)),
        (link-allows G r c d w (link G r c d) (link_le G r c d)).0 (le_refl _),
      ),
    ),
    λ u. within_antisymm q
        (within_trans q _ _ _ u.1.1
        (through_mono G.steps G.connectives w.lawful q u.0 (link G r c d) _ (link-most G r c d u.0 u.1.0 u.1.2) (link_le G r c d)
        (grade_in_le G w d x (child_in G w i l q r x e))))
        (link-bounded G r c d w i l q x e),
  )
