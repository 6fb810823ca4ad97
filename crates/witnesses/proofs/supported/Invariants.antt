-- `witnesses::supported` meets its contract. The slots below `q` have marked witnesses.
-- Assumes nothing.
use Prim.Native.Nat.{ℕ, ◌<◌}
use Rattle.witness_boxes.specs.Lent.{tables_of}
use Rattle.witness_boxes.specs.Search.{Backed, Remembers}
use Rattle.witnesses.proofs.supported.Given as goal

abbrev pub invariant-loop-q : goal.invariant-loop-q
invariant-loop-q l = Remembers (tables_of l.t) l.marks l.memory × ((p : ℕ) → p < l.q → Backed (tables_of l.t) l.marks l.c p)
