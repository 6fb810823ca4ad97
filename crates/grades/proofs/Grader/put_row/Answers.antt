-- `grades::Grader::put_row` meets its contract.
-- Assumes nothing.
use mathlib.Core.Path.{◌≡◌, ap, ◌∙◌}
use Prim.Native.Nat.{ℕ, ◌*◌}
use native.Mathlib.Omega.{arith}
use lib.ListN.{length}
use Rattle.chain.proofs.Blocks.{block_part, length_block, put-here}
use Rattle.gradings.specs.Gradings.{grading}
use Rattle.sections.specs.Terms.{terms_of}
use Rattle.grades.proofs.Rows.{filled_grades}
use Rattle.grades.proofs.Grader.put_row.Goals as goal

pub returns-clause-has_grades : goal.returns-clause-has_grades
returns-clause-has_grades c =
    let a = c.args in
    let g = a.self.now in
    let row = c.fill_row.new.row in
    let start : ℕ = 64 * a.k in
    let long : length row ≡ 64 =
    c.fill_row.auto.row ∙ ap length (block_part 64 start a.rows.now) ∙ length_block 64 start a.rows.now c.requires.rows_long in
    filled_grades (grading g.logic (terms_of g.terms.now)) a.c _ _
    (put-here a.rows.now row _ start (omega (arith, c.requires.rows_long)) 64 long ∙ c.fill_row.ensures)
