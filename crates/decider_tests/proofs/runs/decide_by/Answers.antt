-- `decider_tests::runs::decide_by` is safe: the sections that opening gives are those of the book.
-- Assumes nothing.
use Rattle.book.proofs.Opening.{opened_accepted}
use Rattle.decider_tests.proofs.runs.decide_by.Goals as goal

pub decide-requires : goal.decide-requires
decide-requires c = opened_accepted _ _ c.in_ok-book.ensures.value.0
