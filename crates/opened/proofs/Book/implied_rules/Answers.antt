-- `opened::Book::implied_rules` meets its contract: the bytes of the accepted book are those that are held.
-- Assumes nothing.
use Rattle.opened.proofs.Book.implied_rules.Goals as goal

pub returns : goal.returns
returns c = rw c.accepted.ensures at c.implied_in.ensures
