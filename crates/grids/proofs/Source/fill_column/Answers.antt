-- `grids::Source::fill_column` meets its contract. The columns before `i` stay, and column `i` holds the grades at the elements before `e`.
-- Assumes nothing.
use native.Mathlib.Omega.{arith}
use borrow.Author.Count.{below_none}
use Rattle.columns.proofs.Workable.{worked_kept, worked_cell, worked_column}
use Rattle.grids.proofs.Source.fill_column.Goals as goal

pub loop-e-init : goal.loop-e-init
loop-e-init c = (c.requires.worked_to, λ js. below_none _)

pub loop-e-preserved : goal.loop-e-preserved
loop-e-preserved c =
    let w = c.args.self.now.workable in
    let t = c.loop-e in
    let g = c.grade-g.result in (
      worked_kept w c.args.i t.e g t.columns c.set.new.self c.set.ensures t.invariant.0,
      worked_cell w c.args.i t.e g t.columns c.set.new.self c.set.ensures c.requires.i_bound c.loop-e-test.true t.invariant.0 t.invariant.1 c.grade-g.ensures,
    )

pub returns : goal.returns
returns c =
    let s = c.args.self.now in
    worked_column s.terms.now s.logic s.elements s.names s.name_grades.now s.links.now c.args.i c.loop-e.columns c.loop-e.invariant.0
    (λ js e l. c.loop-e.invariant.1 js e (omega arith))
