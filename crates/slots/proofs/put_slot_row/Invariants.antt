-- `slots::put_slot_row` meets its contract. The slots below `q` are in the row.
-- Assumes nothing.
use lib.ListN.{get_or}
use Rattle.slots.specs.Rows.{SlotRowTo}
use Rattle.slots.proofs.put_slot_row.Given as goal

abbrev pub invariant-loop-q : goal.invariant-loop-q
invariant-loop-q l = SlotRowTo l.slots (λ i. get_or l.row i 0) l.q l.part
