-- `grids::Source::work_out` meets its contract. The columns before `i` hold the grades.
-- Assumes nothing.
use native.Mathlib.Omega.{arith}
use borrow.Author.Count.{below_none}
use Rattle.sections.proofs.Terms.{length-terms}
use Rattle.grids.proofs.Source.work_out.Goals as goal

pub loop-i-init : goal.loop-i-init
loop-i-init c = λ js. below_none _

pub returns : goal.returns
returns c = λ js i h. c.loop-i.invariant js i (omega (arith, length-terms c.args.self.now.terms.now))
