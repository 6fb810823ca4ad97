-- `term_sets::gather` meets its contract. The word has a bit for each term from number `j` on.
-- Assumes nothing.
use native.Mathlib.Omega.{arith}
use Rattle.term_sets.proofs.Sets.{gathered_more}
use Rattle.term_sets.proofs.gather.Goals as goal

pub loop-j-preserved : goal.loop-j-preserved
loop-j-preserved c =
    let t = c.loop-j in
    gathered_more c.args.row.now c.args.level t.j t.word c.reaches.result (omega (arith, c.loop-j-test.true)) t.auto.j
    c.reaches.ensures.0 c.reaches.ensures.1 t.invariant
