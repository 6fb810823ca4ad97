-- `sheets::open_sheet` meets its contract. Each return follows from the checks made so far, by the laws of checking a sheet.
-- Assumes nothing.
use mathlib.Core.Path.{sym, ◌∙◌, ap}
use native.Mathlib.Omega.{arith}
use borrow.Author.Rules.{rules}
use Rattle.chain.proofs.Decisions.{told_yes, told_no}
use Rattle.std.specs.Prelude.{Ok}
use Rattle.sheets.proofs.Opening.{sheet_13, sheet_14, sheet_15, sheet-none}
use Rattle.sheets.proofs.open_sheet.Goals as goal

pub returns-then-not-head_right : goal.returns-then-not-head_right
returns-then-not-head_right c = sym (sheet_13 _ _ _ _ _ (told_no _ c.head_right.ensures c.if-not-head_right.true))

pub shape_of-p-requires : goal.shape_of-p-requires
shape_of-p-requires c = (told_yes _ c.head_right.ensures c.if-not-head_right.false).0

pub sheet_laid_out-requires : goal.sheet_laid_out-requires
sheet_laid_out-requires c = ((told_yes _ c.head_right.ensures c.if-not-head_right.false).0, c.shape_of-p.ensures.1)

pub returns-then-not-sheet_laid_out : goal.returns-then-not-sheet_laid_out
returns-then-not-sheet_laid_out c =
    sym (sheet_14 _ _ _ _ _ (told_yes _ c.head_right.ensures c.if-not-head_right.false)
    (rw (← c.shape_of-p.ensures.0) (told_no _ c.sheet_laid_out.ensures c.if-not-sheet_laid_out.true)))

pub entries_right-requires : goal.entries_right-requires
entries_right-requires c = omega (arith, told_yes _ c.sheet_laid_out.ensures c.if-not-sheet_laid_out.false)

pub returns-then-not-entries_right : goal.returns-then-not-entries_right
returns-then-not-entries_right c =
    sym (sheet_15 _ _ _ _ _ (told_yes _ c.head_right.ensures
    c.if-not-head_right.false)
    (rw (← c.shape_of-p.ensures.0)
    (told_yes _ c.sheet_laid_out.ensures c.if-not-sheet_laid_out.false))
    (rw (← c.shape_of-p.ensures.0) (told_no _ c.entries_right.ensures c.if-not-entries_right.true)))

pub returns : goal.returns
returns c =
    ap Ok c.shape_of-p.ensures.0 ∙ sym
    (sheet-none _ _ _ _ _ (told_yes _ c.head_right.ensures
    c.if-not-head_right.false)
    (rw (← c.shape_of-p.ensures.0)
    (told_yes _ c.sheet_laid_out.ensures c.if-not-sheet_laid_out.false))
    (rw (← c.shape_of-p.ensures.0) (told_yes _ c.entries_right.ensures c.if-not-entries_right.false)))
