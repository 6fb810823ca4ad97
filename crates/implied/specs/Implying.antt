-- What asking for the table of implied rules answers, and what it leaves in the marks and in the table: after the checks 1 to 9, 22, 10 and 11, 23.
-- Document 02, P4.
-- Assumes nothing.
use Rattle.std.specs.Prelude.{List, [], ◌∷◌, ◌++◌, ℕ, ◌*◌, length, drop, Result, Ok, Err}
use Rattle.std.proofs.Math.Decide.{dec_le}
use Rattle.refusals.specs.Questions.{Question, ask}
use Rattle.refusals.specs.Answers.{answer, left}
use Rattle.refusals.specs.declared.Refusal.{Refusal}
use Rattle.refusals.specs.declared.Refusal.TheVariants as refusal
use Rattle.semantics.specs.Books.{Book}
use Rattle.types.specs.Candidates.{candidates}
use Rattle.book.specs.Reading.{book_of}
use Rattle.counter.specs.Counting.{candidate_questions}
use Rattle.elimination.specs.Survivors.{survivors_of}
use Rattle.marking.specs.Marking.{marks_by}
use Rattle.subsumption.specs.Subsumption.{implied_table}

-- "the square of the term count"
abbrev pub table_size : Book → ℕ
table_size B = length B.grading.terms * length B.grading.terms

-- ---- of a book that was read, after questions

module _ (B : Book) (qs : List Question) where
  -- "returns the survivor count"
  unfoldable pub implied_by : Result ℕ Refusal
  implied_by = answer (length (survivors_of B)) qs

  -- "fills one byte per ordered pair of terms, row by row"; the bytes past them are kept
  unfoldable pub table_by : (table : List ℕ) → List ℕ
  table_by table = left table (implied_table B.grading (survivors_of B) ++ drop (table_size B) table) qs

-- ---- of a book's bytes

module _ (b : List ℕ) where
  -- with m mark bytes and t table bytes: "23 when the table buffer is shorter than the square of the term count, after 11"
  abbrev pub implied_questions : (m t : ℕ) → List Question
  implied_questions m t =
      candidate_questions b
      ++ (ask refusal.Marks (dec_le (candidates (book_of b).grading) m) ∷ ask refusal.Table (dec_le (table_size (book_of b)) t) ∷ [])

  abbrev pub implied_of : (m t : ℕ) → Result ℕ Refusal
  implied_of m t = implied_by (book_of b) (implied_questions m t)

  -- "A call without placement sets the marks"
  abbrev pub table_marks_after : (t : ℕ) → List ℕ → List ℕ
  table_marks_after t marks = marks_by (book_of b) (implied_questions (length marks) t) marks

  abbrev pub table_after : (m : ℕ) → List ℕ → List ℕ
  table_after m table = table_by (book_of b) (implied_questions m (length table)) table

-- an answer's number of survivors; 0 for a refusal
abbrev pub survivors_in : Result ℕ Refusal → ℕ
survivors_in (Err r) = 0
survivors_in (Ok k) = k
