-- `columns::links_from` meets its contract. The products fit: elements and roles are few.
-- Assumes nothing.
use Prim.Native.Nat.{◌+◌, ◌*◌}
use native.Mathlib.Nat.{mul-le-mul}
use native.Mathlib.Omega.{arith}
use Rattle.columns.proofs.Bounds.{part-lent}
use Rattle.columns.proofs.links_from.Goals as goal

pub overflow_mul-start : goal.overflow_mul-start
overflow_mul-start c = simp c.from.ensures (omega (arith, mul-le-mul c.requires.0 c.ranges.role.fits))

pub overflow_add-start : goal.overflow_add-start
overflow_add-start c = simp c.from.ensures (omega (arith, mul-le-mul c.requires.0 c.ranges.role.fits))

pub returns : goal.returns
returns c =
    let a = c.args in
    rw c.from.ensures (part-lent a.links.now (a.n * (a.n * a.role + a.e)) a.n (omega arith))
