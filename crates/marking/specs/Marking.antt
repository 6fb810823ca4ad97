-- What marking the survivors sets, of an abstract book, and what a call leaves in the marks. Document 01, "Types and links".
-- Assumes nothing.
use Rattle.std.specs.Prelude.{List, ◌++◌, ℕ, drop}
use Rattle.refusals.specs.Questions.{Question}
use Rattle.refusals.specs.Answers.{left}
use Rattle.semantics.specs.Books.{Book}
use Rattle.types.specs.Candidates.{candidates}
use Rattle.elimination.specs.Survivors.{survivors_of}
use Rattle.elimination.specs.Marks.{marks_of}

-- "one mark byte per candidate (1 survivor, 0 not)"; the bytes past them are kept
abbrev pub marked_in : Book → (marks : List ℕ) → List ℕ
marked_in B marks = marks_of (survivors_of B) (candidates B.grading) ++ drop (candidates B.grading) marks

-- of a book that was read, after questions
unfoldable pub marks_by : Book → List Question → (marks : List ℕ) → List ℕ
marks_by B qs marks = left marks (marked_in B marks) qs
