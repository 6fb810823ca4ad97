-- `writer::write_in` meets its contract.
-- Assumes nothing.
use mathlib.Core.Path.{◌∙◌}
use lib.ListN.{length}
use Rattle.refusals.proofs.Answers.{handed_on}
use Rattle.counter.proofs.Counting.{counted_declined}
use Rattle.decider.proofs.Deciding.{decide_before, refused}
use Rattle.written.proofs.Writing.{write_refused}
use Rattle.writer.proofs.write_in.Goals as goal

pub returns-in_err-count_book : goal.returns-in_err-count_book
returns-in_err-count_book c =
    let h = handed_on c.from_residual.result c.from_residual.ensures.1 in
    let e = decide_before c.args.book.bytes.now (length c.args.marks.now) (length c.args.placement.now) _
    (counted_declined _ _ _ c.in_err-count_book.ensures) in
    let u = refused _ _ c.args.marks.now c.args.placement.now _ e in
    let v = write_refused c.args.book.bytes.now (length c.args.marks.now) (length c.args.placement.now) c.args.sheet.now _ e in
    record { value = h ∙ v.0; marks_after = u.1.0; placement_after = u.1.1; sheet_after = v.1 }

pub returns : goal.returns
returns c = rw (← c.in_ok-count_book.ensures) c.write_counted.ensures
