-- `supports::seek` meets its contract. None from `start` on and below `d` is a hit.
-- Assumes nothing.
use Prim.Native.Nat.{ℕ, ◌≤◌, ◌<◌, ◌-◌}
use Rattle.supports.specs.Arcs.{Hit}
use Rattle.supports.proofs.seek.Given as goal

abbrev pub invariant-loop-d : goal.invariant-loop-d
invariant-loop-d l = (x : ℕ) → x < l.d → l.start ≤ x → ¬ Hit l.instance l.bounds l.table l.i x

abbrev pub decreases-loop-d : goal.decreases-loop-d
decreases-loop-d l = l.to - l.d
