-- `opened::Book::work_out` meets its contract: the bytes of the accepted book are those that are held.
-- Assumes nothing.
use Rattle.opened.proofs.Book.work_out.Goals as goal

pub returns : goal.returns
returns c = rw c.accepted.ensures at c.work_in.ensures
