-- `decider::decide_counted` meets its contract.
-- Assumes nothing.
use mathlib.Core.Path.{ap, ◌∙◌}
use native.Mathlib.Omega.{arith}
use lib.ListN.{length}
use Rattle.std.specs.Prelude.{Ok}
use Rattle.refusals.specs.declared.Refusal.TheVariants as refusal
use Rattle.counter.proofs.Counting.{counted-candidates}
use Rattle.decider.proofs.Deciding.{decide_11, decide_12, decide_none, refused, settled}
use Rattle.decider.proofs.decide_counted.Goals as goal

pub returns-then-marks-counted : goal.returns-then-marks-counted
returns-then-marks-counted c =
    let k = c.args.counted in
    let e = counted-candidates _ _ k.count k.counted in
    let w = refused _ _ c.args.marks.now c.args.placement.now refusal.Marks
    (decide_11 k.book.bytes.now (length c.args.marks.now) (length c.args.placement.now) e.0 (λ h. omega (arith, c.if-marks-counted.true, e.1))) in
    record { value = w.0; marks_after = w.1.0; placement_after = w.1.1 }

pub returns-then-placement-lt16 : goal.returns-then-placement-lt16
returns-then-placement-lt16 c =
    let k = c.args.counted in
    let e = counted-candidates _ _ k.count k.counted in
    let w = refused _ _ c.args.marks.now c.args.placement.now refusal.Placement
    (decide_12 k.book.bytes.now (length c.args.marks.now) (length c.args.placement.now) e.0 (omega (arith, c.if-marks-counted.false, e.1))
    (λ h. omega (arith, c.if-placement-lt16.true))) in
    record { value = w.0; marks_after = w.1.0; placement_after = w.1.1 }

pub returns : goal.returns
returns c =
    let k = c.args.counted in
    let e = counted-candidates _ _ k.count k.counted in
    let none = decide_none k.book.bytes.now (length c.args.marks.now) (length c.args.placement.now) e.0
    (omega (arith, c.if-marks-counted.false, e.1)) (omega (arith, c.if-placement-lt16.false)) in
    let u = settled _ _ c.args.marks.now c.args.placement.now none in
    let v = c.decide_checked.ensures in
    record { value = ap Ok v.value ∙ u.0; marks_after = v.marks_after ∙ u.1.0; placement_after = v.placement_after ∙ u.1.1 }
