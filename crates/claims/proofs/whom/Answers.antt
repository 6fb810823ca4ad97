-- `claims::whom` meets its contract.
-- Assumes nothing.
use mathlib.Core.Path.{sym}
use native.Mathlib.Omega.{arith}
use Rattle.claims.proofs.Claims.{members_one, members-set}
use Rattle.claims.proofs.whom.Goals as goal

pub returns-then-claim-lt-SETS : goal.returns-then-claim-lt-SETS
returns-then-claim-lt-SETS c = sym (members_one _ _ c.if-claim-lt-SETS.true)

pub returns-else-claim-lt-SETS : goal.returns-else-claim-lt-SETS
returns-else-claim-lt-SETS c = sym (members-set _ _ (λ l. omega (arith, c.if-claim-lt-SETS.false)))
