-- `subsumption::narrow_by` meets its contract.
-- Assumes nothing.
use mathlib.Core.Path.{sym}
use native.Mathlib.Omega.{arith}
use lib.Seq.{length-take-le}
use borrow.Author.Rules.{rules}
use Rattle.grades.proofs.Rows.{row-length, row_front, row-at-most}
use Rattle.subsumption.proofs.Subsumption.{narrowed_row}
use Rattle.subsumption.proofs.narrow_by.Goals as goal

pub slice_bounds-narrow-end : goal.slice_bounds-narrow-end
slice_bounds-narrow-end c = sym (length-take-le _ _ (omega arith))

pub narrow-requires : goal.narrow-requires
narrow-requires c =
    let terms = c.args.grader.now.terms.now in
    rw (row_front c.args.grader.now.logic terms c.args.c _ _ c.fill_row.ensures) (
      omega (arith, row-length c.args.grader.now.logic terms c.args.c, c.args.grader.now.terms_few),
      omega (arith, row-length c.args.grader.now.logic terms c.args.c, c.requires.0),
      row-at-most c.args.grader.now.logic terms c.args.c c.args.grader.now.terms_right,
    )

pub returns : goal.returns
returns c =
    narrowed_row c.args.grader.now.logic c.args.grader.now.terms.now c.args.c _ c.args.sets.now c.narrow.new.sets
    (row_front c.args.grader.now.logic c.args.grader.now.terms.now c.args.c _ _ c.fill_row.ensures) c.narrow.ensures
