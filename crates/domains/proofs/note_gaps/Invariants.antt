-- `domains::note_gaps` meets its contract. The gaps from `c` on are noted.
-- Assumes nothing.
use Rattle.domains.specs.Gaps.{Noting}
use Rattle.domains.proofs.note_gaps.Given as goal

abbrev pub invariant-loop-c : goal.invariant-loop-c
invariant-loop-c l = Noting l.j l.c l.gap l.count l.initial.table l.table
