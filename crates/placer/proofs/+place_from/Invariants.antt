-- `placer::place_from` finds what the search finds from those seated. The loop's invariant is that the whole search is the rest of it from the next
-- candidate on. The measure of the recursion is the number of individuals that are left.
-- Assumes nothing.
use Prim.Native.Nat.{◌-◌}
use lib.ListN.{take}
use Rattle.placer.proofs.Seats.{Turn}
use Rattle.placer.proofs.+place_from.Given as goal

abbrev pub invariant-loop-c : goal.invariant-loop-c
invariant-loop-c l = Turn l.instance l.table l.k (take l.k l.initial.seats) l.seats l.start

abbrev pub decreases-loop-c : goal.decreases-loop-c
decreases-loop-c l = l.instance.count - l.start

abbrev pub decreases-place_from : goal.decreases-place_from
decreases-place_from l = l.instance.now.individuals - l.k
