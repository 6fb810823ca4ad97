-- `witness_boxes::add_box` meets its contract. The slots from `j` on are bounded.
-- Assumes nothing.
use mathlib.Core.Path.{◌≡◌, ◌∙◌}
use Prim.Native.Nat.{◌+◌, ◌-◌}
use native.Mathlib.Omega.{arith}
use lib.ListN.{get_or}
use Rattle.boxes.proofs.Boxes.{narrowed_down}
use Rattle.slots.specs.Slots.{slot_count}
use Rattle.witness_boxes.specs.Lent.{tables_of}
use Rattle.witness_boxes.specs.Search.{AllowsAt}
use Rattle.witness_boxes.proofs.add_box.Goals as goal

pub loop-j-preserved : goal.loop-j-preserved
loop-j-preserved c =
    let a = c.args in
    let l = c.loop-j in
    let t = c.put_bound-boxes in
    let y = l.j - 1 in
    let e : y + 1 ≡ l.j = omega (arith, c.loop-j-test.true) in record {
      few = omega (arith, l.invariant.few, t.ensures.upper_bound);
      spans = l.invariant.spans;
      room = t.auto.bounds ∙ l.invariant.room;
      narrowed = narrowed_down a.t.now.logic (slot_count a.t.now.slots.now) (λ z row. AllowsAt (tables_of a.t.now) a.c a.q a.level z (get_or row z 0)) y
          (slot_count a.t.now.slots.now) c.bound_of-b.result a.boxes.now.bounds a.boxes.now.count l.boxes.bounds l.boxes.count _ _ (omega (arith, l.auto.j))
          c.bound_of-b.ensures (rw e l.invariant.narrowed) t.ensures.narrowed;
    }
