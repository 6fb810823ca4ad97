-- `network::put_pair` meets its contract. The slots below `j` have their constraints.
-- Assumes nothing.
use native.Mathlib.Omega.{arith}
use Rattle.network.proofs.Links.{added_none, added_more, slot_unclaimed, slot_put}
use Rattle.network.proofs.put_pair.Goals as goal
use Rattle.network.proofs.put_pair.Goals.{in-Some, in_default}

pub loop-j-init : goal.loop-j-init
loop-j-init c = added_none c.args.slots.now c.args.levels.now c.args.x c.args.constraints.now c.args.start

pub loop-j-preserved : goal.loop-j-preserved
loop-j-preserved c =
    let a = c.args in
    let l = c.loop-j in
    elim c.match-asked.branch [
      | in-Some w ↦ rw (w.constraints-is, w.m-is)
          (added_more a.slots.now a.levels.now a.x l.j a.constraints.now a.start l.constraints l.m _ _ l.invariant
          (slot_put a.slots.now a.levels.now a.x l.j l.constraints l.m _ w.in-Some.ensures
          (omega (arith, l.invariant.few, c.requires.slots_bound.0, c.requires.x_bound.2))))
      | in_default w ↦ rw (w.constraints-is, w.m-is)
          (added_more a.slots.now a.levels.now a.x l.j a.constraints.now a.start l.constraints l.m _ _ l.invariant
          (slot_unclaimed a.slots.now a.levels.now a.x l.j l.constraints l.m w.in_default.ensures))
    ]
