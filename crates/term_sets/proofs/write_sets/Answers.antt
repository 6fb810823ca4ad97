-- `term_sets::write_sets` meets its contract. The table begins with the rows of the left terms before `i`.
-- Assumes nothing.
use native.Mathlib.Omega.{arith}
use Rattle.chain.proofs.Blocks.{block_fits}
use Rattle.term_sets.proofs.Sets.{sets_none, sets_more}
use Rattle.term_sets.proofs.write_sets.Goals as goal

pub loop-i-init : goal.loop-i-init
loop-i-init c = sets_none _ _ _

pub loop-i-preserved : goal.loop-i-preserved
loop-i-preserved c =
    let t = c.loop-i in
    sets_more c.args.n c.args.sets.now t.i t.table c.args.table.now c.write_set.new.row t.invariant
    (omega (arith, block_fits c.args.n t.i c.args.n c.loop-i-test.true, t.auto.table, c.requires.2)) c.write_set.ensures
