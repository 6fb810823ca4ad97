-- `domains::note_all_gaps` meets its contract. The gaps of the individuals below `j` are noted.
-- Assumes nothing.
use Rattle.domains.specs.Gaps.{Gaps, SameAllowed}
use Rattle.domains.proofs.note_all_gaps.Given as goal

abbrev pub invariant-loop-j : goal.invariant-loop-j
invariant-loop-j l = record { same_allowed : SameAllowed l.initial.table l.table; gaps : Gaps l.table l.j l.count }
