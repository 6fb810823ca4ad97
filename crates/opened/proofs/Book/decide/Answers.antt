-- `opened::Book::decide` meets its contract: the bytes of the accepted book are those that are held.
-- Assumes nothing.
use Rattle.opened.proofs.Book.decide.Goals as goal

pub returns : goal.returns
returns c = rw c.accepted.ensures at c.decide_in.ensures
