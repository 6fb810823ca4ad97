-- `heads::length_right` meets its contract.
-- Assumes nothing.
use mathlib.Core.Path.{◌≡◌}
use native.Mathlib.Omega.{arith}
use lib.ListN.{length}
use borrow.Author.Rules.{rules}
use Rattle.chain.proofs.Decisions.{tells_no}
use Rattle.heads.specs.Heads.{edition}
use Rattle.heads.proofs.Editions.{head_bounds}
use Rattle.heads.proofs.length_right.Goals as goal

pub returns-then-is_empty : goal.returns-then-is_empty
returns-then-is_empty c =
    let empty : length c.args.b.now ≡ 0 = search rules in
    tells_no (λ h. omega (arith, empty, h.0, (head_bounds (edition c.args.b.now)).0))
