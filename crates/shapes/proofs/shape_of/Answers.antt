-- `shapes::shape_of` meets its contract.
-- Assumes nothing.
use native.Mathlib.Omega.{arith}
use Rattle.shapes.specs.Layout.{shape_of}
use Rattle.shapes.proofs.Bounds.{bytes_indexable}
use Rattle.shapes.proofs.shape_of.Goals as goal

pub returns : goal.returns
unfolding shape_of
returns c = (
  simp (c.from.ensures, c.from-2.ensures, c.from-3.ensures, c.from-4.ensures),
  bytes_indexable _ (omega (arith, c.from.ensures, c.type_inv.b 2)) (omega (arith, c.from-2.ensures, c.type_inv.b 3))
      (omega (arith, c.from-3.ensures, c.type_inv.b 4)) (omega (arith, c.from-4.ensures, c.type_inv.b 5)),
)
