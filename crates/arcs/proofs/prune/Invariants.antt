-- `arcs::prune` meets its contract. What went so far belongs to no consistent placement; each pass that goes on leaves fewer.
-- Assumes nothing.
use mathlib.Core.Path.{◌≡◌}
use lib.ListN.{length}
use Rattle.supports.specs.Arcs.{Domains, Pruned, left}
use Rattle.arcs.proofs.prune.Given as goal

abbrev pub invariant-loop-bounds : goal.invariant-loop-bounds
invariant-loop-bounds l = record {
  domains : Domains l.instance l.table;
  pruned : Pruned l.instance l.initial.table l.table;
}

abbrev pub decreases-loop-bounds : goal.decreases-loop-bounds
decreases-loop-bounds l = left l.table
