-- `shapes::individuals_at` meets its contract. A role's rows fit where its squares do.
-- Assumes nothing.
use native.Mathlib.Omega.{arith}
use Rattle.shapes.proofs.Bounds.{rows_le}
use Rattle.shapes.proofs.individuals_at.Goals as goal

pub overflow_mul-result : goal.overflow_mul-result
overflow_mul-result c = omega (arith, rows_le c.args.p.roles c.args.p.elements)
