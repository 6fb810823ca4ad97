-- `term_sets::narrow_one` meets its contract.
-- Assumes nothing.
use Rattle.term_sets.proofs.Sets.{narrowed_here}
use Rattle.term_sets.proofs.narrow_one.Goals as goal

pub returns-then-row-i-clause-by_index_2 : goal.returns-then-row-i-clause-by_index_2
returns-then-row-i-clause-by_index_2 c =
    (narrowed_here c.args.sets.now c.args.i c.args.word c.requires.1 c.if-row-i.true).1
