-- `slots::write_slot` meets its contract.
-- Assumes nothing.
use native.Mathlib.Omega.{arith}
use Rattle.slots.proofs.Collecting.{slot-written}
use Rattle.slots.proofs.write_slot.Goals as goal

pub returns : goal.returns
returns c =
    let a = c.args in
    slot-written a.slots.now c.copy_from_slice.new.self a.m a.kind a.role a.child a.term (omega arith) c.copy_from_slice.ensures.after
