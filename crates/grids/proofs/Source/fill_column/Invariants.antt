-- `grids::Source::fill_column` meets its contract. The columns before `i` stay, and column `i` holds the grades at the elements before `e`.
-- Assumes nothing.
use Rattle.grids.specs.Sources.{WorkedTo, WorkedIn}
use Rattle.grids.proofs.Source.fill_column.Given as goal

abbrev pub invariant-loop-e : goal.invariant-loop-e
invariant-loop-e l = WorkedTo l.self l.i l.columns × WorkedIn l.self l.i l.e l.columns
