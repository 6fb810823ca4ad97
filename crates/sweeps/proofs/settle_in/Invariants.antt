-- `sweeps::settle_in` meets its contract. Each sweep but the last leaves fewer marks.
-- Assumes nothing.
use lib.ListN.{length}
use Rattle.passes.specs.Sweeps.{State, Reduced}
use Rattle.passes.specs.Lent.{classes_of}
use Rattle.sweeps.proofs.settle_in.Given as goal

abbrev pub invariant-loop-rest : goal.invariant-loop-rest
invariant-loop-rest l = State (classes_of l.k) (length l.initial.marks) l.marks l.memory l.alive l.present l.rest × Reduced (classes_of l.k) l.initial.marks l.marks

abbrev pub decreases-loop-rest : goal.decreases-loop-rest
decreases-loop-rest l = l.rest
