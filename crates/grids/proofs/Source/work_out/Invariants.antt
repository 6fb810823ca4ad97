-- `grids::Source::work_out` meets its contract. The columns before `i` hold the grades.
-- Assumes nothing.
use Rattle.grids.specs.Sources.{WorkedTo}
use Rattle.grids.proofs.Source.work_out.Given as goal

abbrev pub invariant-loop-i : goal.invariant-loop-i
invariant-loop-i l = WorkedTo l.self l.i l.columns
