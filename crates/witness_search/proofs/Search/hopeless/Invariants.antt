-- `witness_search::Search::hopeless` meets its contract. The boxes for the grades of the zone below `x` are missed.
-- Assumes nothing.
use Prim.Native.Nat.{ℕ, ◌≤◌, ◌<◌}
use Rattle.slots.specs.Slots.{slot_count}
use Rattle.witness_boxes.specs.Search.{MissedAt}
use Rattle.witness_search.proofs.Search.hopeless.Given as goal

abbrev pub invariant-loop-x : goal.invariant-loop-x
invariant-loop-x l = (z : ℕ) → z < l.x → l.low ≤ z → MissedAt l.self.boxes.now (slot_count l.self.tables.now.slots.now) l.zone z
