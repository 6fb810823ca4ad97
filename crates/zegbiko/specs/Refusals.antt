-- What the refusal in each answer tells: it is 0 if and only if every check of the call says yes, and else the number of the first that says no.
-- Assumes nothing.
use Rattle.std.specs.Prelude.{◌≡◌, refl, List, ℕ, Result, Ok, Err}
use Rattle.std.proofs.Common.{ap, ◌∙◌}
use Rattle.refusals.specs.Questions.{TellsFirstNo, or_zero}
use Rattle.refusals.specs.Answers.{refusal_in}
use Rattle.refusals.specs.declared.Refusal.{Refusal}
use Rattle.refusals.proofs.Questions.{tells_first_no}
use Rattle.book.specs.Opening.{book_questions, opened_of}
use Rattle.book.proofs.Opening.{opened_refusal}
use Rattle.counter.specs.Counting.{candidate_questions, counted_of}
use Rattle.counter.proofs.Counting.{counted_refusal}
use Rattle.decider.specs.Deciding.{decide_questions, decision_of}
use Rattle.decisions.specs.declared.Decision.{Decision}
use Rattle.decider.proofs.Deciding.{decision_refusal}
use Rattle.implied.specs.Implying.{implied_questions, implied_of}
use Rattle.implied.proofs.Implying.{implied_refusal}
use Rattle.written.specs.Writing.{write_questions, written_of}
use Rattle.written.proofs.Writing.{written_refusal}
use Rattle.working.specs.declared.Verdict.{Verdict}
use Rattle.working.specs.declared.Verdict.TheVariants.{Meets, BreaksRule, BreaksPair, BreaksMembership, BreaksLink}
use Rattle.checker.specs.Working.{work_questions, worked_of}
use Rattle.checker.proofs.Working.{worked_refusal}
use Rattle.asking.specs.Asking.{grade_questions, link_questions, grade_answer, link_answer}
use Rattle.asking.proofs.Asking.{graded_refusal}
use Rattle.numbers.specs.Numbers.{checked_number, counted_numbers, decided_numbers, implied_numbers, written_numbers, worked_numbers, graded_numbers}

pub check_tells : (b : List ℕ) → TellsFirstNo (book_questions b) (checked_number (opened_of b))
check_tells b = tells_first_no _ _ (ap or_zero (opened_refusal b))

pub count_tells : (b : List ℕ) → TellsFirstNo (candidate_questions b) (counted_numbers (counted_of b)).refusal
count_tells b = tells_first_no _ _ (go (counted_of b) ∙ ap or_zero (counted_refusal _ _))
  where
    go : (a : Result ℕ Refusal) → (counted_numbers a).refusal ≡ or_zero (refusal_in a)
    go (Err r) = refl
    go (Ok k) = refl

pub decide_tells : (b : List ℕ) (m p : ℕ) → TellsFirstNo (decide_questions b m p) (decided_numbers (decision_of b m p)).refusal
decide_tells b m p = tells_first_no _ _ (go (decision_of b m p) ∙ ap or_zero (decision_refusal _ _))
  where
    go : (a : Result Decision Refusal) → (decided_numbers a).refusal ≡ or_zero (refusal_in a)
    go (Err r) = refl
    go (Ok d) = refl

pub implied_tells : (b : List ℕ) (m t : ℕ) → TellsFirstNo (implied_questions b m t) (implied_numbers (implied_of b m t)).refusal
implied_tells b m t = tells_first_no _ _ (go (implied_of b m t) ∙ ap or_zero (implied_refusal _ _))
  where
    go : (a : Result ℕ Refusal) → (implied_numbers a).refusal ≡ or_zero (refusal_in a)
    go (Err r) = refl
    go (Ok k) = refl

pub write_tells : (b : List ℕ) (m p t : ℕ) → TellsFirstNo (write_questions b m p t) (written_numbers (written_of b m p t)).refusal
write_tells b m p t = tells_first_no _ _ (go (written_of b m p t) ∙ ap or_zero (written_refusal _ _))
  where
    go : (a : Result ℕ Refusal) → (written_numbers a).refusal ≡ or_zero (refusal_in a)
    go (Err r) = refl
    go (Ok l) = refl

pub work_tells : (b t : List ℕ) (g : ℕ) → TellsFirstNo (work_questions b t g) (worked_numbers (worked_of b t g)).refusal
work_tells b t g = tells_first_no _ _ (go (worked_of b t g) ∙ ap or_zero (worked_refusal _ _ _))
  where
    go : (a : Result Verdict Refusal) → (worked_numbers a).refusal ≡ or_zero (refusal_in a)
    go (Err r) = refl
    go (Ok Meets) = refl
    go (Ok (BreaksRule k e)) = refl
    go (Ok (BreaksPair k e f)) = refl
    go (Ok (BreaksMembership k)) = refl
    go (Ok (BreaksLink k)) = refl

graded : (a : Result ℕ Refusal) → (graded_numbers a).refusal ≡ or_zero (refusal_in a)
graded (Err r) = refl
graded (Ok g) = refl

pub grade_tells : (b : List ℕ) (c i : ℕ) → TellsFirstNo (grade_questions b c i) (graded_numbers (grade_answer b c i)).refusal
grade_tells b c i = tells_first_no _ _ (graded (grade_answer b c i) ∙ ap or_zero (graded_refusal _ _))

pub link_tells : (b : List ℕ) (r c d : ℕ) → TellsFirstNo (link_questions b r c d) (graded_numbers (link_answer b r c d)).refusal
link_tells b r c d = tells_first_no _ _ (graded (link_answer b r c d) ∙ ap or_zero (graded_refusal _ _))
