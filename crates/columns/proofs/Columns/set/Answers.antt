-- `columns::Columns::set` meets its contract.
-- Assumes nothing.
use native.Mathlib.Omega.{arith}
use Rattle.columns.proofs.Cells.{cell-stored}
use Rattle.columns.proofs.Columns.set.Goals as goal

pub returns : goal.returns
returns c = cell-stored _ _ _ _ (omega arith) (omega arith)
