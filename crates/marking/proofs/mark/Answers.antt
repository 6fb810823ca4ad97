-- `marking::mark` meets its contract.
-- Assumes nothing.
use mathlib.Core.Path.{sym}
use Prim.Native.Nat.{◌*◌}
use native.Mathlib.Omega.{arith}
use lib.Seq.{length-take-le}
use Rattle.marking.proofs.mark.Goals as goal

pub slice_bounds-mark_by-end : goal.slice_bounds-mark_by-end
slice_bounds-mark_by-end c =
    let equip = c.equip-m in
    sym (length-take-le (4 * equip.result.1) _ (omega (arith, equip.ensures.0, equip.auto)))
