-- `arcs::pass` meets its contract. The individuals below `j` are revised.
-- Assumes nothing.
use Rattle.supports.specs.Arcs.{Domains, ConsistentTo, Revised}
use Rattle.arcs.proofs.pass.Given as goal

abbrev pub invariant-loop-j : goal.invariant-loop-j
invariant-loop-j l = record {
  domains : Domains l.instance l.table;
  revised : Revised l.instance (ConsistentTo l.instance l.j) l.changed l.initial.table l.table;
}
