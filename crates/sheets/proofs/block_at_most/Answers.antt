-- `sheets::block_at_most` meets its contract. Before each byte, `right` tells of the bytes before it.
-- Assumes nothing.
use Prim.Native.Nat.{◌≤◌}
use native.Mathlib.Omega.{arith}
use lib.ListN.{get_or}
use Rattle.std.proofs.lemmas.Bool.Decides.{nat_tests}
use Rattle.chain.proofs.Decisions.{tells_map}
use Rattle.sheets.proofs.Blocks.{tells_none, tells_more}
use Rattle.sheets.proofs.block_at_most.Goals as goal

pub loop-g-init : goal.loop-g-init
loop-g-init c = tells_none _

pub loop-g-preserved : goal.loop-g-preserved
loop-g-preserved c = tells_more (λ k. get_or c.args.s.now k 0 ≤ c.args.limit) c.loop-g.g-index _ _ c.loop-g.invariant
    (λ e. grind (arith, nat_tests), λ e h. grind (arith, nat_tests))

pub returns : goal.returns
returns c = tells_map _ (λ f k l. f k (omega arith)) (λ f k l. f k (omega arith)) c.loop-g.invariant
