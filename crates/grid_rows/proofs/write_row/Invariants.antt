-- `grid_rows::write_row` meets its contract. The row begins with the cells of the terms before `i`.
-- Assumes nothing.
use mathlib.Core.Path.{◌≡◌}
use mathlib.Core.List.{◌++◌}
use lib.ListN.{drop}
use Rattle.chain.specs.Lists.{table}
use Rattle.columns.specs.Columns.{cell_at}
use Rattle.grid_rows.proofs.write_row.Given as goal

abbrev pub invariant-loop-i : goal.invariant-loop-i
invariant-loop-i l = l.row ≡ table (λ j. cell_at l.columns j l.e) l.i ++ drop l.i l.initial.row
