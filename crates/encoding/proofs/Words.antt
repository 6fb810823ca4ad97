-- Laws of two-byte numbers: what is read is written as it stood.
-- Assumes nothing.
use mathlib.Core.Path.{◌≡◌}
use mathlib.Core.List.{List}
use Prim.Native.Nat.{ℕ, ◌+◌, ◌≤◌}
use native.Mathlib.Nat.{add-zero, mul-add-div_right, mul-add-mod_self_right, div-eq_of_lt, mod-eq_of_lt}
use native.Mathlib.Omega.{arith}
use lib.ListN.{length, take, drop}
use Rattle.chain.specs.Lists.{table}
use Rattle.chain.proofs.Blocks.{take-table}
use Rattle.encoding.specs.Words.{Bytes, word_at, word_bytes}

pub word_written : (b : List ℕ) → Bytes b → (at : ℕ) → at + 2 ≤ length b → word_bytes (word_at b at) ≡ take 2 (drop at b)
unfolding word_at table
word_written b bytes at h =
    let low = bytes (at + 1) in
    rw (take-table 0 b at 2, add-zero, mul-add-div_right {m = 256} (omega arith), mul-add-mod_self_right, div-eq_of_lt low, mod-eq_of_lt low, add-zero)
