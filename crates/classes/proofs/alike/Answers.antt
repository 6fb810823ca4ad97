-- `classes::alike` meets its contract.
-- Assumes nothing.
use Rattle.std.proofs.Common.{rules, ◌<◌, ◌≡◌}
use Rattle.std.proofs.lemmas.Grind.{get_or_default_zero}
use Rattle.std.proofs.lemmas.Iterator.{YieldsList-from_slice}
use Rattle.std.proofs.lemmas.Iterator.Adapters.{serves_from_places}
use native.Mathlib.Omega.{arith}
use Rattle.classes.proofs.alike.Goals as goal

-- the entries of the list are columns
pub all-requires-clause-callable : goal.all-requires-clause-callable
all-requires-clause-callable c =
    let list = c.args.list.now in
    serves_from_places (YieldsList-from_slice list cc) (λ x q k. search rules)
    (λ x k l e. let b : x.now < 32 = omega (arith, e, get_or_default_zero list k x.now l, c.requires.2 k l) in search rules)
