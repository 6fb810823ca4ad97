-- `columns::join` meets its contract.
-- Assumes nothing.
use native.Mathlib.Omega.{arith}
use Rattle.columns.proofs.join.Goals as goal

pub returns-in-Existential : goal.returns-in-Existential
returns-in-Existential c = rw c.in-Existential.is (omega (arith, c.max.ensures))

pub returns-in-Universal : goal.returns-in-Universal
returns-in-Universal c = rw c.in-Universal.is (omega (arith, c.min.ensures))
