-- `decider::decide` meets its contract.
-- Assumes nothing.
use mathlib.Core.Path.{sym, ◌∙◌}
use lib.ListN.{length}
use Rattle.refusals.proofs.Answers.{handed_on, numbered-and, numbered}
use Rattle.counter.proofs.Counting.{counted_declined, counted-refused}
use Rattle.decider.proofs.Deciding.{decide_before, refused, decision_refusal}
use Rattle.decider.proofs.decide.Goals as goal

pub returns-in_err-open : goal.returns-in_err-open
returns-in_err-open c =
    let e = handed_on c.from_residual.result c.from_residual.ensures.1 in
    let w = refused _ _ c.args.marks.now c.args.placement.now _
    (decide_before c.args.b.now (length c.args.marks.now) (length c.args.placement.now) _
    (counted_declined _ _ _ (counted-refused _ _ c.in_err-open.ensures.value))) in
    let n = numbered (decision_refusal _ _) (e ∙ w.0) in
    record { value = n.0; refused = n.1; marks_after = w.1.0; placement_after = w.1.1 }

pub returns : goal.returns
returns c =
    let e = rw c.in_ok-open.ensures.value.1 at c.decide_in.ensures in
    let n = numbered (decision_refusal _ _) e.value in
    record { value = n.0; refused = n.1; marks_after = e.marks_after; placement_after = e.placement_after }
