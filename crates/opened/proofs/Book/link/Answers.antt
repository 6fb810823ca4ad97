-- `opened::Book::link` meets its contract: the bytes of the accepted book are those that are held.
-- Assumes nothing.
use Rattle.opened.proofs.Book.link.Goals as goal

pub returns : goal.returns
returns c = rw c.accepted.ensures at c.link_in.ensures
