-- `witness_boxes::make_boxes` meets its contract. The boxes of the grades below `x` are made.
-- Assumes nothing.
use mathlib.Core.Path.{◌≡◌}
use Prim.Native.Nat.{◌*◌, ◌≤◌}
use lib.ListN.{length}
use Rattle.witness_boxes.specs.Lent.{tables_of}
use Rattle.witness_boxes.specs.Search.{Boxed}
use Rattle.witness_boxes.proofs.make_boxes.Given as goal

abbrev pub invariant-loop-x : goal.invariant-loop-x
invariant-loop-x l = Boxed l.boxes (tables_of l.t) l.c l.q l.x × (l.boxes.count ≤ 16 * l.x) × (length l.boxes.bounds ≡ length l.initial.boxes.bounds)
