-- `implied::implied_rules` meets its contract.
-- Assumes nothing.
use mathlib.Core.Path.{◌∙◌}
use lib.ListN.{length}
use Rattle.refusals.proofs.Answers.{handed_on, numbered}
use Rattle.counter.proofs.Counting.{counted_declined, counted-refused}
use Rattle.implied.proofs.Implying.{implied_before, refused, implied_refusal}
use Rattle.implied.proofs.implied_rules.Goals as goal

pub returns-in_err-open : goal.returns-in_err-open
returns-in_err-open c =
    let e = handed_on c.from_residual.result c.from_residual.ensures.1 in
    let w = refused _ _ c.args.marks.now c.args.table.now _
    (implied_before c.args.b.now (length c.args.marks.now) (length c.args.table.now) _
    (counted_declined _ _ _ (counted-refused _ _ c.in_err-open.ensures.value))) in
    let n = numbered (implied_refusal _ _) (e ∙ w.0) in
    record { value = n.0; refused = n.1; marks_after = w.1.0; table_after = w.1.1 }

pub returns : goal.returns
returns c =
    let e = rw c.in_ok-open.ensures.value.1 at c.implied_in.ensures in
    let n = numbered (implied_refusal _ _) e.value in
    record { value = n.0; refused = n.1; marks_after = e.marks_after; table_after = e.table_after }
