-- `opened::decide` meets its contract: the bytes that are held are those that were given.
-- Assumes nothing.
use Rattle.opened.proofs.decide.Goals as goal

pub returns-clause-value : goal.returns-clause-value
returns-clause-value c = rw c.hold.ensures.0 at c.decide.ensures.value

pub returns-clause-marks_after : goal.returns-clause-marks_after
returns-clause-marks_after c = rw c.hold.ensures.0 at c.decide.ensures.marks_after

pub returns-clause-placement_after : goal.returns-clause-placement_after
returns-clause-placement_after c = rw c.hold.ensures.0 at c.decide.ensures.placement_after
