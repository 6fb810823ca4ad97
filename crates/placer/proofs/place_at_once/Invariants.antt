-- `placer::place_at_once` meets its contract. Whatever the search finds behind those seated, it finds behind none.
-- Assumes nothing.
use Rattle.placer.proofs.Seats.{AtOnce}
use Rattle.placer.proofs.place_at_once.Given as goal

abbrev pub invariant-loop-k : goal.invariant-loop-k
invariant-loop-k l = AtOnce l.instance l.table l.k l.seats
