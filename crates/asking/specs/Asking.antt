-- The questions "grade of a term in a candidate" and "link of two candidates": after the checks 1 to 9, 22 and 10, 20 and then 21.
-- Assumes nothing.
use Rattle.std.specs.Prelude.{List, [], ◌∷◌, ◌++◌, ℕ, length, Result}
use Rattle.std.proofs.Math.Decide.{dec_lt}
use Rattle.chain.specs.Decisions.{dec_and}
use Rattle.refusals.specs.Questions.{Question, ask}
use Rattle.refusals.specs.Answers.{answer}
use Rattle.refusals.specs.declared.Refusal.{Refusal}
use Rattle.refusals.specs.declared.Refusal.TheVariants as refusal
use Rattle.types.specs.Candidates.{candidates, grade_in}
use Rattle.types.specs.Links.{link}
use Rattle.book.specs.Reading.{book_of}
use Rattle.counter.specs.Counting.{candidate_questions}

module _ (b : List ℕ) where
  -- "Is each candidate number below the count?" and "Is the term .. in range?"
  abbrev pub grade_questions : (c i : ℕ) → List Question
  grade_questions c i =
      candidate_questions b
      ++ (ask refusal.Candidate (dec_lt c (candidates (book_of b).grading)) ∷ ask refusal.TermOrRole (dec_lt i (length (book_of b).grading.terms)) ∷ [])

  -- .. "or role (0–7), in range?"
  abbrev pub link_questions : (r c d : ℕ) → List Question
  link_questions r c d =
      candidate_questions b
      ++ (ask refusal.Candidate (dec_and (dec_lt c (candidates (book_of b).grading)) (dec_lt d (candidates (book_of b).grading)))
      ∷ ask refusal.TermOrRole (dec_lt r 8) ∷ [])

-- a grade, after questions
unfoldable pub graded_by : ℕ → List Question → Result ℕ Refusal
graded_by = answer

module _ (b : List ℕ) where
  -- what asking for the grade of term i in candidate c answers
  abbrev pub grade_answer : (c i : ℕ) → Result ℕ Refusal
  grade_answer c i = graded_by (grade_in (book_of b).grading c i) (grade_questions b c i)

  -- what asking for the link from candidate c to candidate d for the role r answers
  abbrev pub link_answer : (r c d : ℕ) → Result ℕ Refusal
  link_answer r c d = graded_by (link (book_of b).grading r c d) (link_questions b r c d)
