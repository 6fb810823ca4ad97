-- `decider::decide_in` meets its contract.
-- Assumes nothing.
use mathlib.Core.Path.{sym, ap, ◌∙◌}
use lib.ListN.{length}
use Rattle.refusals.proofs.Answers.{handed_on}
use Rattle.counter.proofs.Counting.{counted_declined}
use Rattle.decider.proofs.Deciding.{decide_before, refused}
use Rattle.decider.proofs.decide_in.Goals as goal

pub returns-in_err-count_book : goal.returns-in_err-count_book
returns-in_err-count_book c =
    let e = handed_on c.from_residual.result c.from_residual.ensures.1 in
    let w = refused _ _ c.args.marks.now c.args.placement.now _
    (decide_before c.args.book.bytes.now (length c.args.marks.now) (length c.args.placement.now) _ (counted_declined _ _ _ c.in_err-count_book.ensures)) in
    record { value = e ∙ w.0; marks_after = w.1.0; placement_after = w.1.1 }

pub returns : goal.returns
returns c = rw (← c.in_ok-count_book.ensures) (c.decide_counted.ensures)
