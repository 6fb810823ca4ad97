-- `grids::Source::grade` meets its contract. Each kind of term is the row of the table for it; its operands are as far below as the bytes say.
-- Assumes nothing.
use mathlib.Core.Path.{sym, ap, subst, ◌∙◌}
use native.Mathlib.Omega.{arith}
use Rattle.sections.specs.Values.{as_term, as_quantifier, OperandsBelow}
use Rattle.columns.proofs.Workable.{name_below, reached, cell_le}
use Rattle.grids.proofs.Source.grade.Goals as goal

pub name_grade-requires : goal.name_grade-requires
name_grade-requires c =
    let is = sym c.term_at.ensures.term_value ∙ ap as_term c.in-Name.is in
    name_below c.args.self.now.workable c.args.i c.requires.i_bound.0 _ is c.args.e c.requires.i_bound.1

pub negation-requires : goal.negation-requires
negation-requires c =
    let below = subst (OperandsBelow c.args.i) c.in-Not.is c.term_at.ensures.operands_below in
    let le = cell_le c.args.self.now.workable c.args.i c.args.columns.now (omega arith) c.requires.worked_to _ below c.args.e c.requires.i_bound.1 in
    omega (arith, c.cell.ensures)

pub conjunction-requires : goal.conjunction-requires
conjunction-requires c =
    let below = subst (OperandsBelow c.args.i) c.in-And.is c.term_at.ensures.operands_below in
    let le = cell_le c.args.self.now.workable c.args.i c.args.columns.now (omega arith) c.requires.worked_to _ below.0 c.args.e c.requires.i_bound.1 in
    omega (arith, c.cell-in-And.ensures)

pub disjunction-requires : goal.disjunction-requires
disjunction-requires c =
    let below = subst (OperandsBelow c.args.i) c.in-Or.is c.term_at.ensures.operands_below in
    let le = cell_le c.args.self.now.workable c.args.i c.args.columns.now (omega arith) c.requires.worked_to _ below.0 c.args.e c.requires.i_bound.1 in
    omega (arith, c.cell-in-Or.ensures)

pub taken_at-requires-clause-reached : goal.taken_at-requires-clause-reached
taken_at-requires-clause-reached c =
    let is = sym c.term_at.ensures.term_value ∙ ap as_term c.in-Quantified.is in
    let below = subst (OperandsBelow c.args.i) c.in-Quantified.is c.term_at.ensures.operands_below in
    reached c.args.self.now.workable c.args.i c.requires.i_bound.0 (as_quantifier c.in-Quantified.quantifier) _ _ is below.1 c.args.e c.requires.i_bound.1
