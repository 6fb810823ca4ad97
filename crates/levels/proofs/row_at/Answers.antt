-- `levels::row_at` meets its contract.
-- Assumes nothing.
use Prim.Native.Nat.{◌*◌}
use Rattle.chain.proofs.Blocks.{block_part}
use Rattle.levels.proofs.row_at.Goals as goal

pub returns : goal.returns
returns c = block_part 32 (32 * c.args.k) c.args.rows.now
