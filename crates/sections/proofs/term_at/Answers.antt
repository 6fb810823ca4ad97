-- `sections::term_at` meets its contract.
-- Assumes nothing.
use Rattle.sections.proofs.Values.{operands-right}
use Rattle.sections.proofs.term_at.Goals as goal

pub returns-clause-operands_below : goal.returns-clause-operands_below
returns-clause-operands_below c =
    operands-right c.args.s.now c.args.i _ c.requires.1 c.requires.0 c.read_term.ensures
