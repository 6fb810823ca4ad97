-- `opened::Book::count` meets its contract: the bytes of the accepted book are those that are held.
-- Assumes nothing.
use Rattle.opened.proofs.Book.count.Goals as goal

pub returns : goal.returns
returns c = rw c.accepted.ensures at c.count_in.ensures
