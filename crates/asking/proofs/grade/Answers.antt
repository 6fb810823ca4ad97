-- `asking::grade` meets its contract.
-- Assumes nothing.
use mathlib.Core.Path.{sym, ◌∙◌}
use Rattle.refusals.specs.declared.Refusal.TheVariants as refusal
use Rattle.refusals.proofs.Answers.{handed_on, numbered}
use Rattle.counter.specs.Counting.{candidate_questions}
use Rattle.counter.proofs.Counting.{counted_declined, counted-refused}
use Rattle.asking.proofs.Asking.{graded_refusal, graded-before}
use Rattle.asking.proofs.grade.Goals as goal

pub returns-in_err-open : goal.returns-in_err-open
returns-in_err-open c =
    let e = handed_on c.from_residual.result c.from_residual.ensures.1 in
    let w = numbered (graded_refusal _ _) (e ∙ sym (graded-before _ (candidate_questions c.args.b.now) refusal.Candidate refusal.TermOrRole _ _ _
    (counted_declined _ _ _ (counted-refused _ _ c.in_err-open.ensures.value)))) in
    record { value = w.0; refused = w.1 }

pub returns : goal.returns
returns c =
    let w = numbered (graded_refusal _ _) (rw c.in_ok-open.ensures.value.1 at c.grade_in.ensures) in
    record { value = w.0; refused = w.1 }
