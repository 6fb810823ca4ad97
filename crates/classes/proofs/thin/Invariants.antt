-- `classes::thin` meets its contract. The individuals below `j` are thinned.
-- Assumes nothing.
use Rattle.reads.specs.Classes.{Thinned}
use Rattle.classes.proofs.thin.Given as goal

abbrev pub invariant-loop-j : goal.invariant-loop-j
invariant-loop-j l =
    let p = l.instance in
    Thinned p.network.logic p.network.constraints.now p.network.ends.now p.count p.rows.now p.individuals l.initial.table l.table
