-- `implied::imply_counted` meets its contract.
-- Assumes nothing.
use mathlib.Core.Path.{ap, ◌∙◌}
use native.Mathlib.Omega.{arith}
use lib.ListN.{length}
use Rattle.std.specs.Prelude.{Ok}
use Rattle.refusals.specs.declared.Refusal.TheVariants as refusal
use Rattle.book.specs.Reading.{book_of}
use Rattle.book.proofs.Opening.{opened_accepted}
use Rattle.counter.proofs.Counting.{counted-candidates}
use Rattle.implied.specs.Implying.{implied_questions}
use Rattle.implied.proofs.Implying.{implied_11, implied_23, implied_none, refused, settled, size_by, size_few}
use Rattle.implied.proofs.imply_counted.Goals as goal

pub returns-then-marks-counted : goal.returns-then-marks-counted
returns-then-marks-counted c =
    let k = c.args.counted in
    let e = counted-candidates _ _ k.count k.counted in
    let w = refused _ _ c.args.marks.now c.args.table.now refusal.Marks
    (implied_11 k.book.bytes.now (length c.args.marks.now) (length c.args.table.now) e.0 (λ h. omega (arith, c.if-marks-counted.true, e.1))) in
    record { value = w.0; marks_after = w.1.0; table_after = w.1.1 }

pub overflow_mul-terms : goal.overflow_mul-terms
overflow_mul-terms c =
    let k = c.args.counted in
    omega (arith, size_few _ _ (opened_accepted _ _ k.book.opened) _ c.count_terms-terms.ensures)

pub returns-then-table-terms : goal.returns-then-table-terms
returns-then-table-terms c =
    let k = c.args.counted in
    let e = counted-candidates _ _ k.count k.counted in
    let size = size_by _ _ (opened_accepted _ _ k.book.opened) _ c.count_terms-terms.ensures in
    let w = refused _ _ c.args.marks.now c.args.table.now refusal.Table
    (implied_23 k.book.bytes.now (length c.args.marks.now) (length c.args.table.now) e.0 (omega (arith, c.if-marks-counted.false, e.1))
    (λ h. omega (arith, c.if-table-terms.true, size, h))) in
    record { value = w.0; marks_after = w.1.0; table_after = w.1.1 }

pub fill_checked-requires : goal.fill_checked-requires
fill_checked-requires c =
    let k = c.args.counted in
    let size = size_by _ _ (opened_accepted _ _ k.book.opened) _ c.count_terms-terms.ensures in
    record { marks_long = omega (arith, c.if-marks-counted.false); table_long = omega (arith, c.if-table-terms.false, size) }

pub returns : goal.returns
returns c =
    let k = c.args.counted in
    let b = k.book.bytes.now in
    let m = length c.args.marks.now in
    let t = length c.args.table.now in
    let e = counted-candidates _ _ k.count k.counted in
    let size = size_by _ _ (opened_accepted _ _ k.book.opened) _ c.count_terms-terms.ensures in
    let none = implied_none b m t e.0 (omega (arith, c.if-marks-counted.false, e.1)) (omega (arith, c.if-table-terms.false, size)) in
    let u = settled (book_of b) (implied_questions b m t) c.args.marks.now c.args.table.now none in
    let v = c.fill_checked.ensures in
    record { value = ap Ok v.value ∙ u.0; marks_after = v.marks_after ∙ u.1.0; table_after = v.table_after ∙ u.1.1 }
