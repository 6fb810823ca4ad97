-- `checker::Fitting::work_shaped` meets its contract. The array of columns stands alone here, so that nothing computes it.
-- Assumes nothing.
use mathlib.Core.Path.{sym}
use native.Mathlib.Omega.{arith}
use lib.ListN.{length}
use Rattle.refusals.specs.declared.Refusal.TheVariants as refusal
use Rattle.book.proofs.Opening.{opened_accepted}
use Rattle.book.specs.Reading.{book_of}
use Rattle.sheets.specs.Reading.{sheet_of}
use Rattle.checker.specs.Working.{work_questions}
use Rattle.checker.proofs.Working.{work_16, work_none, worked_says, refused, grid_worked, size_is, size_few}
use Rattle.checker.proofs.Fitting.work_shaped.Goals as goal

pub overflow_mul-self : goal.overflow_mul-self
overflow_mul-self c =
    let f = c.args.self.now in
    record { fits = omega (arith, size_few _ _ _ (opened_accepted _ _ f.book.opened) _ f.fits _ c.count_terms.ensures) }

pub returns-then-grid-self : goal.returns-then-grid-self
returns-then-grid-self c =
    let f = c.args.self.now in
    let g = c.args.grid.now in
    let right = opened_accepted _ _ f.book.opened in
    let size = size_is _ _ _ right _ f.fits _ c.count_terms.ensures in
    let w =
    refused (book_of f.book.bytes.now) (sheet_of f.sheet.now) (work_questions f.book.bytes.now f.sheet.now (length g)) g refusal.Grid
    (work_16 _ _ _ right _ f.fits (length g) (λ l. omega arith)) in
    record { value = w.0; grid_after = w.1 }

pub work_fitting-requires : goal.work_fitting-requires
work_fitting-requires c =
    let f = c.args.self.now in
    let size = size_is _ _ _ (opened_accepted _ _ f.book.opened) _ f.fits _ c.count_terms.ensures in
    omega arith

pub returns : goal.returns
returns c =
    let f = c.args.self.now in
    let right = opened_accepted _ _ f.book.opened in
    let size = size_is _ _ _ right _ f.fits _ c.count_terms.ensures in
    let h = work_none _ _ _ right _ f.fits (length c.args.grid.now) (omega arith) in
    record {
      value = rw c.work_fitting.ensures.value (sym (worked_says _ _ _ h));
      grid_after = rw c.work_fitting.ensures.grid_after (sym (grid_worked _ _ _ h));
    }
