-- `passes::judge_all` meets its contract. The sources below `a` are judged.
-- Assumes nothing.
use Rattle.witness_boxes.specs.Lent.{tables_of}
use Rattle.witness_boxes.specs.Search.{Remembers}
use Rattle.passes.specs.Sweeps.{Judged}
use Rattle.passes.proofs.judge_all.Given as goal

abbrev pub invariant-loop-a : goal.invariant-loop-a
invariant-loop-a l = Remembers (tables_of l.t) l.present l.memory × Judged (tables_of l.t) l.present 0 l.a l.initial.alive l.alive
