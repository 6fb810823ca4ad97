-- `filling::fill_blocks` meets its contract. The blocks before number `k` are filled.
-- Assumes nothing.
use mathlib.Core.Path.{◌≡◌, ap, ◌∙◌}
use Prim.Native.Nat.{◌+◌, ◌*◌, ◌≤◌}
use native.Mathlib.Omega.{arith}
use lib.ListN.{length}
use Rattle.chain.proofs.Blocks.{block_fits, block_part, length_block, fill_none, fill_more}
use Rattle.filling.proofs.fill_blocks.Goals as goal

pub loop-k-init : goal.loop-k-init
loop-k-init g c blocks wide is = fill_none blocks c.args.width wide c.args.body.now

pub loop-k-preserved : goal.loop-k-preserved
loop-k-preserved g c blocks wide is =
    let w = c.args.width in
    let k = c.loop-k.k in
    let fits : k * w + w ≤ length c.loop-k.body = omega (arith, block_fits w k c.args.n c.loop-k-test.true, c.requires.room) in
    fill_more blocks w wide k c.loop-k.body c.args.body.now _ (c.loop-k.invariant blocks wide is) fits
    (is k _ _ c.loop-k-test.true (ap length (block_part w (k * w) c.loop-k.body) ∙ length_block w (k * w) c.loop-k.body fits) c.f.ensures)

pub returns : goal.returns
returns g c blocks wide is =
    let e : c.loop-k.k ≡ c.args.n = omega arith in
    rw e at (c.loop-k.invariant blocks wide is)
