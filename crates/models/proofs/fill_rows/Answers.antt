-- `models::fill_rows` meets its contract. The rows of the types before number `e` are filled.
-- Assumes nothing.
use native.Mathlib.Omega.{arith}
use lib.ListN.{get_or}
use borrow.Author.Count.{below_none}
use Rattle.sections.specs.Terms.{terms_of}
use Rattle.gradings.specs.Gradings.{grading}
use Rattle.grades.specs.Rows.{HasGrades}
use Rattle.grades.proofs.Rows.{each-row-more}
use Rattle.models.proofs.fill_rows.Goals as goal

pub loop-e-init : goal.loop-e-init
loop-e-init c = below_none _

pub loop-e-preserved : goal.loop-e-preserved
loop-e-preserved c =
    let g = c.args.grader.now in
    each-row-more (λ e. HasGrades (grading g.logic (terms_of g.terms.now)) (get_or c.args.types.now e 0)) c.loop-e.e c.loop-e.rows _
    c.put_row.ensures.rows_unchanged c.loop-e.invariant (rw (← c.from.ensures) c.put_row.ensures.has_grades)

pub returns : goal.returns
returns c e l = c.loop-e.invariant e (omega arith)
