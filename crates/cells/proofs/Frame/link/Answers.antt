-- `cells::Frame::link` meets its contract. The role's rows are there, and the link stands in the one of `e`.
-- Assumes nothing.
use Prim.Native.Nat.{◌+◌}
use native.Mathlib.Omega.{arith}
use Rattle.columns.proofs.Bounds.{block_row-end, part_at}
use Rattle.cells.proofs.Frame.link.Goals as goal

pub links_from-requires : goal.links_from-requires
links_from-requires c =
    let n = c.args.self.now.elements in
    let r = c.args.role in
    (c.args.self.now.few_elements, c.requires.0, omega (arith, block_row-end n r (r + 1) c.args.e (omega arith) c.requires.0, c.requires.2))

pub returns : goal.returns
returns c = part_at c.args.self.now.links.now _ c.args.self.now.elements _ c.links_from.ensures.0 c.args.f c.requires.1
