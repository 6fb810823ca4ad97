-- `eliminator::enter_all` meets its contract. The candidates below `c` are entered, and each index names classes that there are.
-- Assumes nothing.
use Rattle.partition.specs.Rows.{Names}
use Rattle.entries.specs.Filling.{Entered}
use Rattle.entries.specs.Lent.{grading_of, rules_in}
use Rattle.eliminator.proofs.enter_all.Given as goal

abbrev pub invariant-loop-c : goal.invariant-loop-c
invariant-loop-c l = record {
  entered : Entered (grading_of l.theory) (rules_in l.theory) l.theory.slots.now l.sources l.targets l.marks l.c l.left;
  first : Names l.first.places l.sources.count;
  second : Names l.second.places l.targets.count;
}
