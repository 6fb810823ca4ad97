-- `models::link_at` meets its contract. The rows are lent, 64 grades each.
-- Assumes nothing.
use native.Mathlib.Omega.{arith}
use Rattle.grades.proofs.Rows.{length-row_at}
use Rattle.models.proofs.link_at.Goals as goal

pub link_of_rows-requires : goal.link_of_rows-requires
link_of_rows-requires c =
    record {
      rows_long = (
        rw c.row_at.ensures (omega (arith, length-row_at c.args.rows.now c.args.e (omega (arith, c.requires.e_bound)), c.args.grader.now.terms_few)),
        rw c.row_at-2.ensures (omega (arith, length-row_at c.args.rows.now c.args.f (omega (arith, c.requires.e_bound)), c.args.grader.now.terms_few)),
      );
    }

pub returns : goal.returns
returns c = rw (← c.row_at.ensures, ← c.row_at-2.ensures) c.link_of_rows.ensures
