-- `row_links::link_of` meets its contract. The two rows have the candidates' grades at their fronts.
-- Assumes nothing.
use mathlib.Core.Path.{◌∙◌}
use Rattle.gradings.specs.Gradings.{grading}
use Rattle.sections.specs.Terms.{terms_of}
use Rattle.sections.proofs.Terms.{terms-ordered}
use Rattle.grades.proofs.Rows.{filled_grades, rows-between}
use Rattle.row_links.proofs.link_of.Goals as goal

pub returns : goal.returns
returns c =
    let g = c.args.grader.now in
    let ts = terms_of g.terms.now in
    c.link_of_rows.ensures
    ∙ rows-between g.logic ts (terms-ordered g.terms.now g.terms_right) c.args.role c.args.c c.args.d c.fill_row.new.row c.fill_row-2.new.row
    (filled_grades (grading g.logic ts) c.args.c _ _ c.fill_row.ensures) (filled_grades (grading g.logic ts) c.args.d _ _ c.fill_row-2.ensures)
