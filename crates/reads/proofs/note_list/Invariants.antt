-- `reads::note_list` meets its contract. What the constraints so far read is noted.
-- Assumes nothing.
use Rattle.reads.specs.Reads.{ListRead, More}
use Rattle.reads.proofs.note_list.Given as goal

abbrev pub invariant-loop-constraint : goal.invariant-loop-constraint
invariant-loop-constraint l = record { more : More l.initial.seen l.seen; list_read : ListRead l.constraints l.end l.constraint-index l.seen }
