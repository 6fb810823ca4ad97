-- `cells::Frame::element` meets its contract.
-- Assumes nothing.
use native.Mathlib.Omega.{arith}
use Rattle.cells.proofs.Frame.element.Goals as goal

pub returns : goal.returns
returns c = (c.from.ensures, omega (arith, c.args.self.now.seated c.args.j c.requires))
