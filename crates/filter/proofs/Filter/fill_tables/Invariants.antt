-- `filter::Filter::fill_tables` meets its contract. The candidates below `c` are entered.
-- Assumes nothing.
use Rattle.filter.specs.Filter.{Filtered}
use Rattle.filter.proofs.Filter.fill_tables.Given as goal

abbrev pub invariant-loop-c : goal.invariant-loop-c
invariant-loop-c l =
    let f = l.self in
    let n = f.network.now in
    Filtered n.logic f.grader.terms.now f.slots.now f.memberships.now n.constraints.now n.ends.now l.marks f.individuals l.c l.rows l.table
