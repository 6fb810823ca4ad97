-- `opened::Book::accepted` meets its contract.
-- Assumes nothing.
use Rattle.book.proofs.Opening.{opened_right}
use Rattle.opened.proofs.Book.accepted.Goals as goal

pub invariant_of-result : goal.invariant_of-result
invariant_of-result c = record { opened = opened_right _ _ c.requires }
