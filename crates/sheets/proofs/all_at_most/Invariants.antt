-- `sheets::all_at_most` meets its contract. The bytes of the blocks before `block` are at most the limit.
-- Assumes nothing.
use Prim.Native.Nat.{ℕ, ◌*◌, ◌<◌, ◌≤◌}
use lib.ListN.{length, get_or}
use Rattle.sheets.proofs.all_at_most.Given as goal

abbrev pub invariant-loop-block : goal.invariant-loop-block
invariant-loop-block l = (k : ℕ) → k < 64 * l.block → k < length l.s → get_or l.s k 0 ≤ l.limit
