-- `grades::Grader::grade_of` meets its contract.
-- Assumes nothing.
use Rattle.gradings.specs.Gradings.{grading}
use Rattle.sections.specs.Terms.{terms_of}
use Rattle.sections.proofs.Terms.{length-terms}
use Rattle.grades.proofs.Rows.{front_grades}
use Rattle.grades.proofs.Grader.grade_of.Goals as goal

pub returns : goal.returns
returns c =
    let g = c.args.self.now in
    rw c.fill_row.ensures (front_grades (grading g.logic (terms_of g.terms.now)) c.args.c _ c.args.i (rw length-terms c.requires.i_bound))
