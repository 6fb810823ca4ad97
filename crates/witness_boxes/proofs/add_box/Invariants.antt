-- `witness_boxes::add_box` meets its contract. The slots from `j` on are bounded.
-- Assumes nothing.
use mathlib.Core.Path.{◌≡◌}
use Prim.Native.Nat.{ℕ, ◌+◌, ◌≤◌, ◌<◌}
use lib.ListN.{length, get_or}
use Rattle.boxes.specs.Boxes.{Narrowed}
use Rattle.slots.specs.Slots.{slot_count}
use Rattle.witness_boxes.specs.Lent.{tables_of}
use Rattle.witness_boxes.specs.Search.{AllowsAt}
use Rattle.witness_boxes.proofs.add_box.Given as goal

abbrev pub invariant-loop-j : goal.invariant-loop-j
invariant-loop-j l = record {
  few : l.boxes.count + l.j ≤ l.begin + slot_count l.t.slots.now;
  spans : l.boxes.spans ≡ l.initial.boxes.spans;
  room : length l.boxes.bounds ≡ length l.initial.boxes.bounds;
  narrowed : Narrowed l.t.logic (slot_count l.t.slots.now)
      (λ row. (i : ℕ) → l.j ≤ i → i < slot_count l.t.slots.now → AllowsAt (tables_of l.t) l.c l.q l.level i (get_or row i 0))
      l.initial.boxes.bounds l.begin l.boxes.bounds l.boxes.count;
}
