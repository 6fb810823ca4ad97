-- `printout::Text::put_newline` meets its contract.
-- Assumes nothing.
use Rattle.printout.proofs.Lines.{newline-is}
use Rattle.printout.proofs.Adding.{added_same}
use Rattle.printout.proofs.Text.put_newline.Goals as goal

pub returns-clause-added : goal.returns-clause-added
returns-clause-added c = added_same newline-is c.put_byte.ensures.added
