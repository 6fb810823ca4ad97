-- `checker::work_out` meets its contract. The book is opened once; a refusal is passed on and leaves the grid.
-- Assumes nothing.
use mathlib.Core.Path.{ap, ◌∙◌}
use mathlib.Core.List.{List}
use Prim.Native.Nat.{ℕ}
use lib.ListN.{length}
use Rattle.refusals.proofs.Answers.{numbered-and, handed_on}
use Rattle.book.specs.Reading.{book_of}
use Rattle.sheets.specs.Reading.{sheet_of}
use Rattle.checker.specs.Working.{worked_of, grid_after}
use Rattle.checker.proofs.Working.{worked_refusal, work_book, refused}
use Rattle.checker.proofs.work_out.Goals as goal

pub returns-in_err-open : goal.returns-in_err-open
returns-in_err-open c =
    let b = c.args.b.now in
    let t = c.args.sheet.now in
    let g = c.args.grid.now in
    let w = refused (book_of b) (sheet_of t) _ g _ (work_book b t (length g) _ c.in_err-open.ensures.value) in
    let handed = handed_on c.from_residual.result c.from_residual.ensures.1 in
    let v = numbered-and (worked_refusal _ _ _) (handed ∙ w.0, w.1) in
    record { value = v.0; refused = v.1.0; grid_after = v.1.1 }

pub returns : goal.returns
returns c =
    let t = c.args.sheet.now in
    let g = c.args.grid.now in
    let same = c.in_ok-open.ensures.value.1 in
    let v =
    numbered-and (worked_refusal _ _ _) (
      c.work_in.ensures.value ∙ ap (λ (b : List ℕ). worked_of b t (length g)) same,
      c.work_in.ensures.grid_after ∙ ap (λ (b : List ℕ). grid_after b t g) same,
    ) in
    record { value = v.0; refused = v.1.0; grid_after = v.1.1 }
