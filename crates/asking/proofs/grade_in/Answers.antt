-- `asking::grade_in` meets its contract.
-- Assumes nothing.
use mathlib.Core.Path.{sym, ◌∙◌}
use Rattle.refusals.specs.declared.Refusal.TheVariants as refusal
use Rattle.refusals.proofs.Answers.{handed_on}
use Rattle.counter.specs.Counting.{candidate_questions}
use Rattle.counter.proofs.Counting.{counted_declined}
use Rattle.asking.proofs.Asking.{graded-before}
use Rattle.asking.proofs.grade_in.Goals as goal

pub returns-in_err-count_book : goal.returns-in_err-count_book
returns-in_err-count_book c =
    handed_on c.from_residual.result c.from_residual.ensures.1
    ∙ sym (graded-before _ (candidate_questions c.args.book.bytes.now) refusal.Candidate refusal.TermOrRole _ _ _
    (counted_declined _ _ _ c.in_err-count_book.ensures))

pub returns : goal.returns
returns c = rw (← c.in_ok-count_book.ensures) (c.grade_counted.ensures)
