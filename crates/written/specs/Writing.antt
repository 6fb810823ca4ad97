-- What writing a sheet answers, and what it leaves in the sheet: after deciding, 17 to 19. Document 01, "Writing a sheet, after deciding".
-- Assumes nothing.
use Rattle.std.proofs.Math.Option.{Option, none, some}
use Rattle.std.specs.Prelude.{List, [], ◌∷◌, ◌++◌, ℕ, length, drop, Result}
use Rattle.std.proofs.Math.Decide.{ℕ_discrete, dec_le}
use Rattle.refusals.specs.Questions.{Question, ask}
use Rattle.refusals.specs.Answers.{answer, left}
use Rattle.refusals.specs.declared.Refusal.{Refusal}
use Rattle.refusals.specs.declared.Refusal.TheVariants as refusal
use Rattle.semantics.specs.Books.{Book, name_count, role_count, individuals}
use Rattle.book.specs.Reading.{book_of}
use Rattle.sheets.specs.Writing.{sheet_bytes}
use Rattle.elimination.specs.Survivors.{survivors_of}
use Rattle.placement.specs.Outcome.{placement, outcome, placed_types}
use Rattle.decider.specs.Deciding.{decide_questions}

-- ---- of an abstract book

-- the placement found; nobody is placed where there is none
abbrev pub seats_of : Option (List ℕ) → List ℕ
seats_of none = []
seats_of (some p) = p

-- "Elements are the survivors, ascending; individuals sit at their placed types; a name number below A that no term uses is graded 0."
unfoldable pub model_bytes : Book → List ℕ
model_bytes B = sheet_bytes B.grading.steps (name_count B) (role_count B) (individuals B) (placed_types B (seats_of (placement B)))

-- with a sheet buffer of t bytes: "Is the outcome 1?" "Are there at most 64 survivors?" "Is the sheet buffer long enough?"
abbrev pub model_questions : Book → (t : ℕ) → List Question
model_questions B t =
    ask refusal.Outcome (ℕ_discrete (outcome B) 1)
    ∷ ask refusal.Survivors (dec_le (length (survivors_of B)) 64)
    ∷ ask refusal.SheetBuffer (dec_le (length (model_bytes B)) t) ∷ []

-- ---- of a book that was read, after questions

module _ (B : Book) (qs : List Question) where
  -- the sheet's length
  unfoldable pub written_by : Result ℕ Refusal
  written_by = answer (length (model_bytes B)) qs

  -- "A refusal leaves the sheet buffer untouched, and bytes past the sheet are kept."
  unfoldable pub sheet_by : (sheet : List ℕ) → List ℕ
  sheet_by sheet = left sheet (model_bytes B ++ drop (length (model_bytes B)) sheet) qs

-- ---- of a book's bytes, with m mark bytes and p placement bytes ("marks and placement stay as decided")

module _ (b : List ℕ) (m p : ℕ) where
  abbrev pub write_questions : (t : ℕ) → List Question
  write_questions t = decide_questions b m p ++ model_questions (book_of b) t

  abbrev pub written_of : (t : ℕ) → Result ℕ Refusal
  written_of t = written_by (book_of b) (write_questions t)

  abbrev pub sheet_after : List ℕ → List ℕ
  sheet_after sheet = sheet_by (book_of b) (write_questions (length sheet)) sheet
