-- `supports::put_bounds` meets its contract. The bounds so far ask what the constraints before this one do.
-- Assumes nothing.
use Prim.Native.Nat.{ℕ, ◌≤◌, ◌<◌, ◌+◌}
use Rattle.network.specs.Constraints.{constraint_at}
use Rattle.boxes.specs.Boxes.{Narrowed}
use Rattle.supports.specs.Arcs.{MetAcross}
use Rattle.supports.proofs.put_bounds.Given as goal

abbrev pub invariant-loop-k : goal.invariant-loop-k
invariant-loop-k l = record {
  within : l.m ≤ l.start + l.k-index;
  narrowed : Narrowed l.network.logic l.network.columns (λ v. (y : ℕ) → y < l.k-index → MetAcross l.network.logic l.end (constraint_at l.constraints y) l.known v)
      l.initial.bounds l.start l.bounds l.m;
}
