-- `network::put_pair` meets its contract. The slots below `j` have their constraints.
-- Assumes nothing.
use Rattle.network.specs.Network.{Added}
use Rattle.network.proofs.put_pair.Given as goal

abbrev pub invariant-loop-j : goal.invariant-loop-j
invariant-loop-j l = Added l.slots l.levels l.x l.j l.initial.constraints l.start l.constraints l.m
