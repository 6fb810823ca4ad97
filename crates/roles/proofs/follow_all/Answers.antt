-- `roles::follow_all` meets its contract. The pairs from `i` on were followed.
-- Assumes nothing.
use Prim.Native.Nat.{◌-◌}
use native.Mathlib.Omega.{arith}
use Rattle.roles.proofs.Tables.{reaches_start, reaches_next}
use Rattle.roles.proofs.follow_all.Goals as goal

pub loop-i-init : goal.loop-i-init
loop-i-init c = reaches_start c.args.pairs.now c.args.above.now c.requires.1

pub loop-i-preserved : goal.loop-i-preserved
loop-i-preserved c =
    let l = c.loop-i in
    reaches_next c.args.pairs.now (l.i - 1) l.i l.above c.follow.new.above (omega arith)
    (omega (arith, l.auto.i)) c.requires.0 l.invariant c.follow.ensures
