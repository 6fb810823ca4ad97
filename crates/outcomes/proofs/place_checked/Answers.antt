-- `outcomes::place_checked` meets its contract.
-- Assumes nothing.
use mathlib.Core.Path.{sym}
use Prim.Native.Nat.{◌*◌}
use native.Mathlib.Omega.{arith}
use lib.Seq.{length-take-le}
use Rattle.outcomes.proofs.place_checked.Goals as goal

pub slice_bounds-place_individuals-end : goal.slice_bounds-place_individuals-end
slice_bounds-place_individuals-end c =
    let equip = c.equip-m in
    sym (length-take-le (4 * equip.result.1) _ (omega (arith, equip.ensures.0, equip.auto)))
