-- `network::connect_by` meets its contract. The pairs below `x` have their lists, which end at `m`.
-- Assumes nothing.
use native.Mathlib.Omega.{arith}
use Rattle.network.proofs.Links.{connected_none, connected_more}
use Rattle.network.proofs.connect_by.Goals as goal

pub loop-x-init : goal.loop-x-init
loop-x-init c = connected_none c.args.slots.now c.args.levels.now c.args.constraints.now c.args.ends.now c.requires.in_bounds.3

pub loop-x-preserved : goal.loop-x-preserved
loop-x-preserved c =
    let l = c.loop-x in
    let p = c.put_pair-m in
    connected_more c.args.slots.now c.args.levels.now l.x l.m l.constraints l.ends _ p.result (omega (arith, c.requires.in_bounds.2))
    c.requires.slots_bound.0 l.invariant p.ensures
