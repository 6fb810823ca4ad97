-- `decider_tests::run` meets its contract. The loop keeps the length of `book`; the place rises with each line, and goes at most one past the text.
-- Assumes nothing.
use Rattle.std.proofs.Common.{◌≡◌, ◌+◌, ◌-◌, ◌≤◌, length}
use Rattle.decider_tests.proofs.run.Given as goal

abbrev pub invariant-loop-at : goal.invariant-loop-at
invariant-loop-at g l = (l.at ≤ length l.input + 1) × (length l.book ≡ length l.initial.book)

abbrev pub decreases-loop-at : goal.decreases-loop-at
decreases-loop-at g l = length l.input + 1 - l.at
