-- `partition::Classes::add` meets its contract.
-- Assumes nothing.
use native.Mathlib.Omega.{arith}
use Rattle.partition.proofs.Rows.{row-written}
use Rattle.partition.proofs.Classes.add.Goals as goal

pub returns-clause-row : goal.returns-clause-row
returns-clause-row c =
    let a = c.args in
    row-written a.self.now.rows a.self.now.count a.row.now _ _ (omega arith) c.copy_from_slice.ensures.after
