-- The whole printout of a book's bytes, from the theory's definitions. Document 01, "The program's printout".
-- Assumes nothing.
use Rattle.std.proofs.Math.Logic.{ite}
use Rattle.std.proofs.Math.Option.{Option, none, some}
use Rattle.std.specs.Prelude.{List, [], ◌++◌, ℕ, length}
use Rattle.std.proofs.Math.Decide.{ℕ_discrete}
use Rattle.refusals.specs.Questions.{first_no}
use Rattle.refusals.specs.Refusals.{number_of}
use Rattle.refusals.specs.declared.Refusal.{Refusal}
use Rattle.semantics.specs.Books.{Book, individuals}
use Rattle.grades.specs.Rows.{row_of}
use Rattle.book.specs.Reading.{book_of}
use Rattle.counter.specs.Counting.{candidate_questions}
use Rattle.elimination.specs.Survivors.{survivors_of}
use Rattle.placement.specs.Outcome.{seat, placement, outcome}
use Rattle.printout.specs.Lines.{refused_line, outcome_line, type_lines, individual_lines}

-- the candidate at which an individual is placed; 0 where none is
abbrev pub placed_at : Option (List ℕ) → ℕ → ℕ
placed_at none j = 0
placed_at (some p) j = seat p j

-- of a book that was decided
unfoldable pub decided_lines : Book → List ℕ
unfolding ℕ_discrete
decided_lines B =
    outcome_line (outcome B) (length (survivors_of B))
    ++ (type_lines (row_of B.grading) (survivors_of B)
    ++ ite {C = List ℕ} (ℕ_discrete (outcome B) 1) (individual_lines (placed_at (placement B)) (individuals B)) [])

-- by the first check that says no
abbrev pub printed_by : Option Refusal → Book → List ℕ
printed_by none B = decided_lines B
printed_by (some r) B = refused_line (number_of r)

-- of a book's bytes: the program's buffers are large enough, so the checks are 1 to 9, 22 and 10
unfoldable pub printout_of : List ℕ → List ℕ
printout_of b = printed_by (first_no (candidate_questions b)) (book_of b)
