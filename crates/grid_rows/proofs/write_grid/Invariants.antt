-- `grid_rows::write_grid` meets its contract. The grid begins with the rows of the elements before `e`.
-- Assumes nothing.
use mathlib.Core.Path.{◌≡◌}
use mathlib.Core.List.{◌++◌}
use Prim.Native.Nat.{◌*◌}
use lib.ListN.{drop}
use Rattle.columns.specs.Columns.{rows_of}
use Rattle.grid_rows.proofs.write_grid.Given as goal

abbrev pub invariant-loop-e : goal.invariant-loop-e
invariant-loop-e l = l.grid ≡ rows_of l.columns l.t l.e ++ drop (l.e * l.t) l.initial.grid
