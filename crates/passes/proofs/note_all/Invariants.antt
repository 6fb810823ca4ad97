-- `passes::note_all` meets its contract. The classes of the candidates below `c` are noted.
-- Assumes nothing.
use Rattle.passes.specs.Sweeps.{Noted}
use Rattle.passes.proofs.note_all.Given as goal

abbrev pub invariant-loop-c : goal.invariant-loop-c
invariant-loop-c l = Noted l.class l.marks l.seen l.c
