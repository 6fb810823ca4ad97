-- Laws of tables of rows of slots.
-- Assumes nothing.
use mathlib.Core.Path.{◌≡◌}
use mathlib.Core.List.{List}
use Prim.Native.Nat.{ℕ, ◌+◌, ◌*◌, ◌≤◌}
use lib.ListN.{length}
use Rattle.chain.proofs.Blocks.{length_block}
use Rattle.levels.specs.Rows.{row_at}

pub length-row_at : (rows : List ℕ) (k : ℕ) → 32 * k + 32 ≤ length rows → length (row_at rows k) ≡ 32
length-row_at rows k = length_block 32 (32 * k) rows
