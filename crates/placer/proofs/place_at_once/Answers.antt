-- `placer::place_at_once` meets its contract. Whatever the search finds behind those seated, it finds behind none.
-- Assumes nothing.
use native.Mathlib.Omega.{arith}
use Rattle.placer.proofs.Seats.{at_once_next, at_once_all}
use Rattle.placer.proofs.place_at_once.Goals as goal

pub loop-k-preserved : goal.loop-k-preserved
loop-k-preserved c = at_once_next c.loop-k.invariant c.in-Some.ensures c.loop-k-test.true

pub returns : goal.returns
returns c = λ _. at_once_all c.loop-k.invariant (omega arith)
