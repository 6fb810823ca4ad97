-- `placer::place` meets its contract.
-- Assumes nothing.
use mathlib.Core.Path.{sym}
use Prim.Native.Nat.{ℕ}
use lib.ListN.{length-replicate}
use native.Mathlib.Omega.{arith}
use Rattle.chain.proofs.Lists.{zeros-long, zeros-at}
use Rattle.sections.specs.declared.Quantifier.TheVariants.{Existential}
use Rattle.network.specs.declared.Constraint.{Constraint}
use Rattle.placer.proofs.place.Goals as goal

pub slice_bounds-place_in-end-3 : goal.slice_bounds-place_in-end-3
slice_bounds-place_in-end-3 c = sym (length-replicate {A = ℕ} 524288 0)

pub place_in-requires-clause-in_bounds : goal.place_in-requires-clause-in_bounds
place_in-requires-clause-in_bounds c =
    let constraints = length-replicate {A = Constraint} 1024 (record { quantifier = Existential; level = 0; own = 0; child = 0 }) in
    (omega (arith, constraints), zeros-long 65, zeros-at 65 0, zeros-long 524288, zeros-long 131072, zeros-at 131072)
