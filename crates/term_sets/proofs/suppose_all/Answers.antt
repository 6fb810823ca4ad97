-- `term_sets::suppose_all` meets its contract.
-- Assumes nothing.
use native.Mathlib.Omega.{arith}
use lib.ListN.{length-set}
use Rattle.term_sets.proofs.Sets.{full_more}
use Rattle.term_sets.proofs.suppose_all.Goals as goal

pub loop-i-preserved : goal.loop-i-preserved
loop-i-preserved c =
    let t = c.loop-i in
    (simp length-set t.invariant.0, full_more t.sets t.i (omega arith) t.invariant.1)
