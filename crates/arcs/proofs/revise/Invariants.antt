-- `arcs::revise` meets its contract. The candidates below `next` that have no support went, and nothing else did.
-- Assumes nothing.
use Prim.Native.Nat.{◌≤◌, ◌-◌}
use Rattle.supports.specs.Arcs.{Domains, RevisedBy}
use Rattle.arcs.proofs.revise.Given as goal

abbrev pub invariant-loop-next : goal.invariant-loop-next
invariant-loop-next l = record {
  hint_le : l.hint ≤ l.instance.count;
  domains : Domains l.instance l.table;
  revised : RevisedBy l.instance l.j l.i l.next l.changed l.initial.table l.table;
}

abbrev pub decreases-loop-next : goal.decreases-loop-next
decreases-loop-next l = l.instance.count - l.next
