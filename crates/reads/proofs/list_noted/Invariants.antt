-- `reads::list_noted` meets its contract. The columns below `t` are listed.
-- Assumes nothing.
use Rattle.reads.specs.Reads.{Listed}
use Rattle.reads.proofs.list_noted.Given as goal

abbrev pub invariant-loop-t : goal.invariant-loop-t
invariant-loop-t l = Listed l.seen l.t l.m l.list
