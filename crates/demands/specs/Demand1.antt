-- Demand 1, of every call and of bytes of any kind: each call answers, and what it does not accept it refuses with the number of the first
-- question that says no, in the order of documents 01 ("The checks, as questions") and 02; and what every buffer holds after a refusal.
--
-- In words, what the prover's acceptance adds, since it is asked of every function before any contract: each call ends on every input, never stops
-- on the way (no index out of range, no number out of its type's range), and reads and writes nothing outside the slices that it is handed. None
-- of the calls below has a `requires`.
-- Assumes nothing.
use Rattle.std.specs.Prelude.{◌≡◌, refl, List, [], ◌∷◌, map, ℕ, length, Ok, Err}
use Rattle.std.proofs.Common.{sym}
use Rattle.std.proofs.Math.Decide.{ℕ_discrete, dec_le}
use Rattle.refusals.specs.Refusals.{number_of}
use Rattle.refusals.specs.Questions.{Question, ask, first_no}
use Rattle.refusals.specs.Answers.{refusal_in}
use Rattle.refusals.specs.declared.Refusal.{Refusal}
use Rattle.refusals.specs.declared.Refusal.TheVariants as refusal
use Rattle.semantics.specs.Books.{name_count, role_count, individuals}
use Rattle.book.specs.Reading.{book_of}
use Rattle.book.specs.Opening.{book_questions, opened_of}
use Rattle.counter.specs.Counting.{candidate_questions, counted_of}
use Rattle.book.proofs.Opening as Opening
use Rattle.counter.proofs.Counting as Counting
use Rattle.shapes.specs.Layout.{end_at}
use Rattle.shapes.specs.declared.Shape.{Shape}
use Rattle.checker.specs.Working.{work_questions, worked_of, grid_after}
use Rattle.asking.specs.Asking.{grade_questions, link_questions, grade_answer, link_answer}
use Rattle.checker.proofs.Working as Working
use Rattle.asking.proofs.Asking as Asking
use Rattle.checker.proofs.Grids as Grids
use Rattle.decider.specs.Deciding.{decide_questions, decision_of, marks_after, placement_after}
use Rattle.decisions.specs.Decided.{outcome_number}
use Rattle.decisions.specs.declared.Decision.{Decision}
use Rattle.decider.proofs.Deciding as Deciding
use Rattle.written.specs.Writing.{written_of, sheet_after}
use Rattle.written.proofs.Writing as Writing

-- ---- "The first "no" gives the number."

-- the questions' numbers, in their order
abbrev numbers : List Question → List ℕ
numbers = map (λ q. number_of q.refusal)

module _ (b : List ℕ) where
  -- "Every call on a book", and "22 .., straight after 9, on every call on a book": `book::open`
  pub opening_asks : numbers (book_questions b) ≡ 1 ∷ 2 ∷ 3 ∷ 4 ∷ 5 ∷ 6 ∷ 7 ∷ 8 ∷ 9 ∷ 22 ∷ []
  opening_asks = refl

  pub opening_refuses : refusal_in (opened_of b) ≡ first_no (book_questions b)
  opening_refuses = Opening.opened_refusal b

  -- then "Are there at most 16,384 candidates?": `counter::count`
  pub counting_asks : numbers (candidate_questions b) ≡ 1 ∷ 2 ∷ 3 ∷ 4 ∷ 5 ∷ 6 ∷ 7 ∷ 8 ∷ 9 ∷ 22 ∷ 10 ∷ []
  counting_asks = refl

  pub counting_refuses : refusal_in (counted_of b) ≡ first_no (candidate_questions b)
  counting_refuses = Counting.counted_refusal _ _

  -- "Deciding, then", with m mark bytes and p placement bytes: `decider::decide`
  pub deciding_asks : (m p : ℕ) → numbers (decide_questions b m p) ≡ 1 ∷ 2 ∷ 3 ∷ 4 ∷ 5 ∷ 6 ∷ 7 ∷ 8 ∷ 9 ∷ 22 ∷ 10 ∷ 11 ∷ 12 ∷ []
  deciding_asks m p = refl

  pub deciding_refuses : (m p : ℕ) → refusal_in (decision_of b m p) ≡ first_no (decide_questions b m p)
  deciding_refuses m p = Deciding.decision_refusal _ _

  -- "Working out a sheet, after 9", with a grid buffer of g bytes: `checker::work_out`
  pub working_asks : (t : List ℕ) (g : ℕ) → numbers (work_questions b t g) ≡ 1 ∷ 2 ∷ 3 ∷ 4 ∷ 5 ∷ 6 ∷ 7 ∷ 8 ∷ 9 ∷ 22 ∷ 13 ∷ 14 ∷ 15 ∷ 16 ∷ []
  working_asks t g = refl

  pub working_refuses : (t : List ℕ) (g : ℕ) → refusal_in (worked_of b t g) ≡ first_no (work_questions b t g)
  working_refuses t g = Working.worked_refusal _ _ _

  -- "Grade of a term in a candidate, or link of two candidates, after 10": `checker::grade`, `checker::link`
  pub grading_asks : (c i : ℕ) → numbers (grade_questions b c i) ≡ 1 ∷ 2 ∷ 3 ∷ 4 ∷ 5 ∷ 6 ∷ 7 ∷ 8 ∷ 9 ∷ 22 ∷ 10 ∷ 20 ∷ 21 ∷ []
  grading_asks c i = refl

  pub grading_refuses : (c i : ℕ) → refusal_in (grade_answer b c i) ≡ first_no (grade_questions b c i)
  grading_refuses c i = Asking.graded_refusal _ _

  pub linking_asks : (r c d : ℕ) → numbers (link_questions b r c d) ≡ 1 ∷ 2 ∷ 3 ∷ 4 ∷ 5 ∷ 6 ∷ 7 ∷ 8 ∷ 9 ∷ 22 ∷ 10 ∷ 20 ∷ 21 ∷ []
  linking_asks r c d = refl

  pub linking_refuses : (r c d : ℕ) → refusal_in (link_answer b r c d) ≡ first_no (link_questions b r c d)
  linking_refuses r c d = Asking.graded_refusal _ _

  -- "Writing a sheet, after deciding", with a sheet buffer of t bytes: `writer::write_sheet`. What deciding refuses it refuses;
  pub writing_refuses_first : (m p t : ℕ) (r : Refusal) → decision_of b m p ≡ Err r → written_of b m p t ≡ Err r
  writing_refuses_first = Writing.written_undecided b

  -- and where deciding answers an outcome and a number of survivors: "Is the outcome 1? 17", "Are there at most 64 survivors? 18", "Is the sheet buffer
  -- long enough? 19", for a sheet of as many elements with the book's A, R and I
  abbrev shape : ℕ → Shape
  shape k = record { elements = k; names = name_count (book_of b); roles = role_count (book_of b); individuals = individuals (book_of b) }

  pub writing_refuses_then : (m p t : ℕ) (d : Decision) → decision_of b m p ≡ Ok d → refusal_in (written_of b m p t)
      ≡ first_no (ask refusal.Outcome (ℕ_discrete (outcome_number d.outcome) 1)
      ∷ ask refusal.Survivors (dec_le d.survivors 64)
      ∷ ask refusal.SheetBuffer (dec_le (end_at (shape d.survivors)) t) ∷ [])
  writing_refuses_then = Writing.written_decided b

  -- else it answers the sheet's length
  pub writing_answers : (m p t : ℕ) (d : Decision) → decision_of b m p ≡ Ok d → (n : ℕ) → written_of b m p t ≡ Ok n → n ≡ end_at (shape d.survivors)
  writing_answers = Writing.written-length b

-- ---- "A refusal changes no buffer, but for 17 to 19."

module _ (b marks buffer : List ℕ) (r : Refusal) (no : decision_of b (length marks) (length buffer) ≡ Err r) where
  pub refused-marks_stay : marks_after b (length buffer) marks ≡ marks
  refused-marks_stay = sym (Deciding.refused _ _ marks buffer r (Deciding.decision-refused _ _ r no)).1.0

  pub refused-placement_stays : placement_after b (length marks) buffer ≡ buffer
  refused-placement_stays = sym (Deciding.refused _ _ marks buffer r (Deciding.decision-refused _ _ r no)).1.1

-- `writer::write_sheet` leaves in marks and placement what `decider::decide` leaves, whatever it answers (its contract has the same equations, with
-- `marks_after` and `placement_after`): with 1 to 12 nothing, with 17 to 19 what deciding sets ("marks and placement stay as decided").
-- "A refusal leaves the sheet buffer untouched"
pub refused-sheet_stays : (b : List ℕ) (m p : ℕ) (sheet : List ℕ) (r : Refusal) → written_of b m p (length sheet) ≡ Err r → sheet_after b m p sheet ≡ sheet
refused-sheet_stays = Writing.sheet-kept

pub refused_grid_stays : (b t grid : List ℕ) (r : Refusal) → worked_of b t (length grid) ≡ Err r → grid_after b t grid ≡ grid
refused_grid_stays = Grids.work_refused
