-- `filter::Filter::allow_row` meets its contract. The individuals below `j` have their byte for the candidate.
-- Assumes nothing.
use Rattle.grades.specs.Rows.{entry}
use Rattle.filter.specs.Filter.{Column}
use Rattle.filter.proofs.Filter.allow_row.Given as goal

abbrev pub invariant-loop-j : goal.invariant-loop-j
invariant-loop-j l =
    let n = l.self.network.now in
    Column n.logic l.self.memberships.now n.constraints.now n.ends.now (entry l.grades) l.row l.j l.c l.initial.table l.table
