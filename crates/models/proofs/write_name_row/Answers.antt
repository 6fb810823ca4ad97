-- `models::write_name_row` meets its contract. The row has 64 grades.
-- Assumes nothing.
use Prim.Native.Nat.{◌≤◌}
use native.Mathlib.Omega.{arith}
use lib.ListN.{length}
use borrow.Author.Rules.{rules}
use Rattle.sections.specs.Terms.{term_count}
use Rattle.grades.proofs.Rows.{length-row_at}
use Rattle.models.proofs.write_name_row.Goals as goal

pub fill_each-requires : goal.fill_each-requires
fill_each-requires c =
    let a = c.args in
    let long : term_count a.grader.now.terms.now ≤ length c.row_at-row.result.now =
    rw c.row_at-row.ensures (omega (arith, a.grader.now.terms_few, length-row_at a.rows.now a.e (omega arith))) in
    search rules
