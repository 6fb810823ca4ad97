-- `writer::write_sheet` meets its contract.
-- Assumes nothing.
use mathlib.Core.Path.{◌∙◌}
use lib.ListN.{length}
use Rattle.refusals.proofs.Answers.{handed_on, numbered}
use Rattle.counter.proofs.Counting.{counted_declined, counted-refused}
use Rattle.decider.proofs.Deciding.{decide_before, refused}
use Rattle.written.proofs.Writing.{write_refused, written_refusal}
use Rattle.writer.proofs.write_sheet.Goals as goal

pub returns-in_err-open : goal.returns-in_err-open
returns-in_err-open c =
    let h = handed_on c.from_residual.result c.from_residual.ensures.1 in
    let e = decide_before c.args.b.now (length c.args.marks.now) (length c.args.placement.now) _
    (counted_declined _ _ _ (counted-refused _ _ c.in_err-open.ensures.value)) in
    let u = refused _ _ c.args.marks.now c.args.placement.now _ e in
    let v = write_refused c.args.b.now (length c.args.marks.now) (length c.args.placement.now) c.args.sheet.now _ e in
    let w = numbered (written_refusal _ _) (h ∙ v.0) in
    record { value = w.0; refused = w.1; marks_after = u.1.0; placement_after = u.1.1; sheet_after = v.1 }

pub returns : goal.returns
returns c =
    let e = rw c.in_ok-open.ensures.value.1 at c.write_in.ensures in
    let w = numbered (written_refusal _ _) e.value in
    record { value = w.0; refused = w.1; marks_after = e.marks_after; placement_after = e.placement_after; sheet_after = e.sheet_after }
