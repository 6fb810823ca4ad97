-- `grades::row_at` meets its contract.
-- Assumes nothing.
use Prim.Native.Nat.{◌*◌}
use Rattle.chain.proofs.Blocks.{block_part}
use Rattle.grades.proofs.row_at.Goals as goal

pub returns : goal.returns
returns c = block_part 64 (64 * c.args.k) c.args.rows.now
