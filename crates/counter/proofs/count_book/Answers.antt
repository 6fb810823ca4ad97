-- `counter::count_book` meets its contract.
-- Assumes nothing.
use mathlib.Core.Path.{sym}
use Rattle.refusals.proofs.Answers.{handed_on}
use Rattle.counter.proofs.count_book.Goals as goal

pub returns-in_err-count : goal.returns-in_err-count
returns-in_err-count c = rw (handed_on c.from_residual.result c.from_residual.ensures.1) (sym c.in_err-count.ensures)
