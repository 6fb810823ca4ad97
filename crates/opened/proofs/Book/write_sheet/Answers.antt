-- `opened::Book::write_sheet` meets its contract: the bytes of the accepted book are those that are held.
-- Assumes nothing.
use Rattle.opened.proofs.Book.write_sheet.Goals as goal

pub returns : goal.returns
returns c = rw c.accepted.ensures at c.write_in.ensures
