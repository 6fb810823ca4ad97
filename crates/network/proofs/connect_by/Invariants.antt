-- `network::connect_by` meets its contract. The pairs below `x` have their lists, which end at `m`.
-- Assumes nothing.
use Rattle.network.specs.Network.{Connected}
use Rattle.network.proofs.connect_by.Given as goal

abbrev pub invariant-loop-x : goal.invariant-loop-x
invariant-loop-x l = Connected l.slots l.levels l.x l.m l.constraints l.ends
