-- `arcs::revise_all` meets its contract. It is revised by the individuals below `i`.
-- Assumes nothing.
use Rattle.supports.specs.Arcs.{Domains, SupportedTo, Revised}
use Rattle.arcs.proofs.revise_all.Given as goal

abbrev pub invariant-loop-i : goal.invariant-loop-i
invariant-loop-i l = record {
  domains : Domains l.instance l.table;
  revised : Revised l.instance (SupportedTo l.instance l.j l.i) l.changed l.initial.table l.table;
}
