-- `small_models::worlds::worlds` meets its contract. The loop keeps the length of `w`, and its counter within its bound.
-- Assumes nothing.
use Rattle.std.proofs.Common.{◌≡◌, ◌-◌, ◌≤◌, length}
use Rattle.small_models.proofs.worlds.worlds.Given as goal

abbrev pub invariant-loop : goal.invariant-loop
invariant-loop l = (l.counter ≤ l.count) × (32 ≡ length l.w)

abbrev pub decreases-loop : goal.decreases-loop
decreases-loop l = l.count - l.counter
