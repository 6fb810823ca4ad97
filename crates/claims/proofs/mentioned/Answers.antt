-- `claims::mentioned` meets its contract.
-- Assumes nothing.
use native.Mathlib.Omega.{arith}
use Rattle.chain.specs.Lists.{highest}
use Rattle.claims.proofs.mentioned.Goals as goal

pub returns-in-Individual : goal.returns-in-Individual
unfolding highest
returns-in-Individual c = rw (← c.in-Individual.ensures) (omega (arith, c.from.ensures))
