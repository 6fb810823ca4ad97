-- `witness_search::Search::next_hit` meets its contract. No target from `start` up to `d` is a hit.
-- Assumes nothing.
use Prim.Native.Nat.{ℕ, ◌-◌, ◌≤◌, ◌<◌}
use lib.ListN.{length}
use Rattle.witness_boxes.specs.Search.{Hit}
use Rattle.witness_search.proofs.Search.next_hit.Given as goal

abbrev pub invariant-loop-d : goal.invariant-loop-d
invariant-loop-d l = (e : ℕ) → l.start ≤ e → e < l.d → ¬ Hit l.self.boxes.now l.self.slot l.self.tables.now.child.now l.self.marks.now e

abbrev pub decreases-loop-d : goal.decreases-loop-d
decreases-loop-d l = length l.self.marks.now - l.d
