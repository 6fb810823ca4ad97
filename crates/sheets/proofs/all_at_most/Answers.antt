-- `sheets::all_at_most` meets its contract. The bytes of the blocks before `block` are at most the limit.
-- Assumes nothing.
use Prim.Native.Nat.{◌*◌, ◌≤◌}
use native.Mathlib.Omega.{arith}
use Rattle.chain.proofs.Decisions.{told_yes}
use Rattle.sheets.proofs.Blocks.{block_more}
use Rattle.sheets.proofs.all_at_most.Goals as goal

pub loop-block-preserved : goal.loop-block-preserved
loop-block-preserved c =
    let l = c.loop-block in
    let here = told_yes _ c.block_at_most.ensures c.if-not-block_at_most.false in
    λ k h m. block_more (λ g. g ≤ c.args.limit) c.args.s.now (64 * l.block) c.min.result (omega arith) (λ j n. l.invariant j n (omega arith)) here k (omega arith)
