-- `classes::thin_by` meets its contract. The candidates below `c` are done.
-- Assumes nothing.
use Rattle.reads.specs.Classes.{Thinning}
use Rattle.classes.proofs.thin_by.Given as goal

abbrev pub invariant-loop-c : goal.invariant-loop-c
invariant-loop-c l = Thinning l.list l.instance.rows.now l.j l.instance.count l.c l.initial.table l.table l.memory
