-- `reads::note_all` meets its contract. What the constraints between `j` and those below `i` read is noted.
-- Assumes nothing.
use Rattle.reads.specs.Reads.{Read}
use Rattle.reads.proofs.note_all.Given as goal

abbrev pub invariant-loop-i : goal.invariant-loop-i
invariant-loop-i l = Read l.network.constraints.now l.network.ends.now l.j l.i l.seen
