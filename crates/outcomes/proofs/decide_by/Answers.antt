-- `outcomes::decide_by` meets its contract.
-- Assumes nothing.
use mathlib.Core.List.{List}
use mathlib.Core.Path.{sym, ap, ◌∙◌}
use Prim.Native.Nat.{ℕ}
use native.Mathlib.Omega.{arith}
use Rattle.std.specs.Prelude.{Some}
use Rattle.counter.proofs.Counting.{counted-candidates}
use Rattle.marking.proofs.Marking.{marked_in_lem}
use Rattle.decisions.proofs.Decided.{outcome_3, outcome_3_kept, outcome-with, marks-alone, decides}
use Rattle.decisions.specs.declared.Outcome.TheVariants.{NoModel}
use Rattle.elimination.specs.Marks.{marked}
use Rattle.book.specs.Reading.{book_of}
use Rattle.outcomes.proofs.decide_by.Goals as goal

pub returns-then-not-deciding : goal.returns-then-not-deciding
returns-then-not-deciding c =
    let mark = c.mark-survivors in
    let u = marks-alone (book_of c.args.counted.book.bytes.now) c.args.deciding c.if-not-deciding.true in
    record { value = (mark.ensures.value, u.0); marks_after = mark.ensures.marks_after; placement_after = u.1 _ }

pub returns-then-survivors-eq0 : goal.returns-then-survivors-eq0
returns-then-survivors-eq0 c =
    let B = book_of c.args.counted.book.bytes.now in
    let mark = c.mark-survivors in
    let e = sym mark.ensures.value ∙ c.if-survivors-eq0.true in
    let u = decides B c.args.deciding c.if-not-deciding.false in
    record {
      value = (sym e, ap Some (outcome-with NoModel _ (outcome_3 B e)) ∙ u.0);
      marks_after = mark.ensures.marks_after;
      placement_after = outcome_3_kept B e _ ∙ u.1 _;
    }

pub invariant_of-place_checked : goal.invariant_of-place_checked
invariant_of-place_checked c =
    let k = c.args.counted in
    let mark = c.mark-survivors in
    record {
      marks_long = omega (arith, mark.auto, c.requires.marks_long);
      listed = ap (λ (l : List ℕ). marked l k.count) mark.ensures.marks_after
          ∙ marked_in_lem (book_of k.book.bytes.now) k.count (counted-candidates _ _ k.count k.counted).1 c.args.marks.now;
    }

pub place_checked-outcome-requires : goal.place_checked-outcome-requires
place_checked-outcome-requires c =
    let mark = c.mark-survivors in
    (omega (arith, mark.ensures.value, c.if-survivors-eq0.false), c.requires.placement_long c.if-not-deciding.false)

pub returns : goal.returns
returns c =
    let B = book_of c.args.counted.book.bytes.now in
    let mark = c.mark-survivors in
    let p = c.place_checked-outcome.ensures in
    let u = decides B c.args.deciding c.if-not-deciding.false in
    record {
      value = (mark.ensures.value, ap Some (outcome-with _ _ p.value) ∙ u.0);
      marks_after = mark.ensures.marks_after;
      placement_after = p.placement_after ∙ u.1 _;
    }
