-- Laws of whose terms bound a link, by the table of a `Logic`: roles that the table has are looked up in it, and no others are above one another.
-- Assumes nothing.
use mathlib.Core.Path.{◌≡◌, refl}
use mathlib.Core.Bool.{Bool}
use mathlib.Core.Logic.{◌⊎◌, inl, inr}
use mathlib.Core.List.{[]}
use Prim.Native.Nat.{ℕ, ◌+◌, ◌*◌, ◌≤◌, ◌<◌}
use native.Mathlib.Decide.{ℕ_discrete}
use native.Mathlib.Omega.{arith}
use lib.ListN.{get_or}
use Rattle.chain.specs.Decisions.{Tells}
use Rattle.chain.proofs.Lists.{mem_keep, keep_mem}
use Rattle.semantics.specs.Roles.{RolePair, role_pairs}
use Rattle.semantics.specs.Links.{Governs}
use Rattle.semantics.proofs.Roles.{pair_among, among_range}
use Rattle.roles.specs.Tables.{Marked, hierarchy_in}
use Rattle.gradings.specs.Gradings.{grading}
use Rattle.gradings.specs.declared.Logic.{Logic}

module _ (l : Logic) (t r : ℕ) where
  pub governs-same : t ≡ r → Governs (grading l []) t r
  governs-same e = inl e

  module _ (n : ¬ (t ≡ r)) where
    governs-marked : Governs (grading l []) t r → (t < 8) × (r < 8) × Marked l.above r t
    unfolding hierarchy_in
    governs-marked (inl e) = absurd (n e)
    governs-marked (inr (q, m, (lo, up))) =
        let k = mem_keep (λ p. ℕ_discrete (get_or l.above (8 * p.lower + p.upper) 0) 1) role_pairs q m in
        let h = among_range q k.0 in
        (omega (arith, up), omega (arith, lo), rw (← lo, ← up) k.1)

    pub governs_range : (8 ≤ t) ⊎ (8 ≤ r) → ¬ Governs (grading l []) t r
    governs_range (inl h) g = absurd (omega (arith, (governs-marked g).0))
    governs_range (inr h) g = absurd (omega (arith, (governs-marked g).1))

    pub governs-table : t < 8 → r < 8 → (b : Bool) → Tells b (Marked l.above r t) → Tells b (Governs (grading l []) t r)
    unfolding hierarchy_in
    governs-table ht hr b tells = (
      λ e. let q : RolePair = record { lower = r; upper = t } in
          inr (q, keep_mem (λ p. ℕ_discrete (get_or l.above (8 * p.lower + p.upper) 0) 1) role_pairs q (pair_among q (omega arith)) (tells.0 e), (refl, refl)),
      λ e g. tells.1 e (governs-marked g).2,
    )
