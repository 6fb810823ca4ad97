-- `opened::Book::grade` meets its contract: the bytes of the accepted book are those that are held.
-- Assumes nothing.
use Rattle.opened.proofs.Book.grade.Goals as goal

pub returns : goal.returns
returns c = rw c.accepted.ensures at c.grade_in.ensures
