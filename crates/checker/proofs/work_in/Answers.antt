-- `checker::work_in` meets its contract. A refusal leaves the grid.
-- Assumes nothing.
use lib.ListN.{length}
use Rattle.refusals.proofs.Answers.{handed_on}
use Rattle.book.specs.Reading.{book_of}
use Rattle.book.proofs.Opening.{opened_accepted}
use Rattle.sheets.specs.Reading.{sheet_of}
use Rattle.checker.proofs.Working.{work_sheet, refused, sheet-fits, sheet-asked}
use Rattle.checker.proofs.work_in.Goals as goal

pub returns-in_err-shape : goal.returns-in_err-shape
returns-in_err-shape c =
    let b = c.args.book in
    let t = c.args.sheet.now in
    let right = opened_accepted _ _ b.opened in
    let asked = sheet-asked _ t _ right _ c.counts.ensures.value _ c.open_sheet.ensures _ c.in_err-shape.was in
    let w = refused (book_of b.bytes.now) (sheet_of t) _ c.args.grid.now _ (work_sheet _ t _ right (length c.args.grid.now) _ asked) in
    rw (handed_on c.from_residual.result c.from_residual.ensures.1) (record { value = w.0; grid_after = w.1 })

pub invariant_of-fitting : goal.invariant_of-fitting
invariant_of-fitting c =
    record { fits = sheet-fits _ _ _ (opened_accepted _ _ c.args.book.opened) _ c.counts.ensures.value _ c.open_sheet.ensures _ c.in_ok-shape.was }
