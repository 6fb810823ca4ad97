-- `filling::fill_each` meets its contract. The bytes before number `i` are filled.
-- Assumes nothing.
use native.Mathlib.Omega.{arith}
use Rattle.chain.proofs.Lists.{zero_filled, set_filled, table_filled}
use Rattle.filling.proofs.fill_each.Goals as goal

pub loop-i-init : goal.loop-i-init
loop-i-init g c entry is = zero_filled _ _

pub loop-i-preserved : goal.loop-i-preserved
loop-i-preserved g c entry is =
    rw (is c.loop-i.i c.f.result c.loop-i-test.true c.f.ensures, c.loop-i.invariant entry is)
    (set_filled entry c.args.body.now c.loop-i.i c.loop-i-test.true)

pub returns : goal.returns
returns g c entry is = table_filled entry c.loop-i.i c.args.body.now c.loop-i.body (c.loop-i.invariant entry is) (omega arith)
