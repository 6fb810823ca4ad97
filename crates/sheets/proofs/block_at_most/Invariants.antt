-- `sheets::block_at_most` meets its contract. Before each byte, `right` tells of the bytes before it.
-- Assumes nothing.
use Prim.Native.Nat.{ℕ, ◌<◌, ◌≤◌}
use lib.ListN.{get_or}
use Rattle.chain.specs.Decisions.{Tells}
use Rattle.sheets.proofs.block_at_most.Given as goal

abbrev pub invariant-loop-g : goal.invariant-loop-g
invariant-loop-g l = Tells l.right ((k : ℕ) → k < l.g-index → get_or l.s k 0 ≤ l.limit)
