-- `domains::Instance::row` meets its contract.
-- Assumes nothing.
use native.Mathlib.Omega.{arith}
use Rattle.levels.proofs.Rows.{length-row_at}
use Rattle.domains.proofs.Instance.row.Goals as goal

pub returns-clause-long : goal.returns-clause-long
returns-clause-long c =
    let i = c.args.self.now in
    rw c.row_at.ensures (length-row_at i.rows.now c.args.c (omega (arith, c.requires, i.problem.rows_long)))
