-- `boxes::inside` meets its contract. The row lies within the bounds before the next.
-- Assumes nothing.
use Prim.Native.Nat.{ℕ, ◌<◌}
use Rattle.boxes.specs.Boxes.{bound_at, Within}
use Rattle.boxes.proofs.inside.Given as goal

abbrev pub invariant-loop-b : goal.invariant-loop-b
invariant-loop-b l = (z : ℕ) → z < l.b-index → Within (bound_at l.bounds z) l.row
