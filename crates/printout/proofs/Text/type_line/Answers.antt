-- `printout::Text::type_line` meets its contract.
-- Assumes nothing.
use mathlib.Core.Path.{sym, ap}
use native.Mathlib.Omega.{arith}
use lib.Seq.{length-take-le}
use Rattle.printout.specs.Lines.{type_line}
use Rattle.grades.proofs.Rows.{row-length, row_front}
use Rattle.printout.proofs.Lines.{row_digits}
use Rattle.printout.proofs.Adding.{added_same}
use Rattle.printout.proofs.Text.type_line.Goals as goal

pub slice_bounds-put_type-end : goal.slice_bounds-put_type-end
slice_bounds-put_type-end c = sym (length-take-le _ _ (omega arith))

pub put_type-requires : goal.put_type-requires
put_type-requires c =
    let grader = c.args.grader.now in
    record {
      by_index = rw (row_front grader.logic grader.terms.now c.args.c _ _ c.fill_row.ensures) (
        row_digits grader.logic grader.terms.now c.args.c grader.terms_right (omega arith),
        omega (arith, row-length grader.logic grader.terms.now c.args.c),
      );
      at_in_bounds = omega arith;
    }

pub returns : goal.returns
returns c =
    let grader = c.args.grader.now in
    let front = row_front grader.logic grader.terms.now c.args.c _ _ c.fill_row.ensures in
    record {
      added = added_same (ap (type_line c.args.c) front) c.put_type.ensures.added;
      upper_bound = c.put_type.ensures.upper_bound;
      same_buffer = c.put_type.ensures.same_buffer;
    }
