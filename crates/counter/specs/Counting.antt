-- What counting a book's candidates answers, after its checks: the first that says no, or how many there are. Document 01, "Deciding".
-- Assumes nothing.
use Rattle.std.specs.Prelude.{List, [], ◌∷◌, ◌++◌, ℕ, ◌≤◌, Result}
use Rattle.std.proofs.Math.Decide.{dec_le}
use Rattle.refusals.specs.Questions.{Question, ask}
use Rattle.refusals.specs.Answers.{answer}
use Rattle.refusals.specs.declared.Refusal.{Refusal}
use Rattle.refusals.specs.declared.Refusal.TheVariants as refusal
use Rattle.semantics.specs.Books.{Book}
use Rattle.types.specs.Candidates.{candidates}
use Rattle.book.specs.Reading.{book_of}
use Rattle.book.specs.Opening.{book_questions}

-- "Deciding, then: Are there at most 16,384 candidates?"
unfoldable pub few_candidates? : (B : Book) → Dec (candidates B.grading ≤ 16384)
unfolding dec_le
few_candidates? B = dec_le (candidates B.grading) 16384

-- of a book that was read, after questions: how many there are
unfoldable pub counted_by : Book → List Question → Result ℕ Refusal
counted_by B = answer (candidates B.grading)

-- of a book's bytes
abbrev pub candidate_questions : List ℕ → List Question
candidate_questions b = book_questions b ++ (ask refusal.Candidates (few_candidates? (book_of b)) ∷ [])

abbrev pub counted_of : List ℕ → Result ℕ Refusal
counted_of b = counted_by (book_of b) (candidate_questions b)
