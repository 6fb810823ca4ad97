-- Demand 2: for every accepted book and sheet, the grade of every term at every element is the one that the semantics of fuzzy ALC gives. The
-- grades are those of document 01's table (semantics/specs/Table), and no others; and of bytes: what `checker::work_out` answers and leaves in the
-- grid, by its contract. Sentences in quotation marks are document 01's.
-- Assumes nothing.
use Rattle.std.specs.Prelude.{◌≡◌, ◌↔◌, List, ℕ, ◌+◌, ◌*◌, ◌≤◌, ◌<◌, length, get_or, drop, Ok}
use Rattle.std.proofs.Math.Option.{none}
use Rattle.refusals.specs.Questions.{first_no}
use Rattle.semantics.specs.Interpretations.{Grading, WellFormed, Interpretation, OnChain, grade_at}
use Rattle.semantics.specs.Table.{Table}
use Rattle.semantics.proofs.Interpretations.{grade_at_le}
use Rattle.semantics.proofs.Table as Tables
use Rattle.book.specs.Reading.{book_of}
use Rattle.book.specs.Opening.{Accepts}
use Rattle.book.proofs.Reading.{accepts_valid}
use Rattle.sheets.specs.Reading.{sheet_of}
use Rattle.working.specs.Working.{Says}
use Rattle.working.specs.declared.Verdict.{Verdict}
use Rattle.checker.specs.Working.{grid_size, work_questions, worked_of, grid_after}
use Rattle.checker.proofs.Grids as Grids

-- ---- of an accepted book, on every interpretation on its chain

module _ (b : List ℕ) (ok : Accepts b) (I : Interpretation) (on : OnChain (book_of b).grading.steps I) where
  abbrev G : Grading
  G = (book_of b).grading

  w : WellFormed G
  w = (accepts_valid b ok).well_formed

  -- "grade at element e", row by row
  pub grades_obey_the_table : Table G I (grade_at G I)
  grades_obey_the_table = Tables.grade_at-table G w I on

  -- and no other grades obey it
  pub grades-are_only : (v : (term element : ℕ) → ℕ) → Table G I v
      → (i : ℕ) → i < length G.terms → (e : ℕ) → e < I.size → v i e ≡ grade_at G I i e
  grades-are_only = Tables.table_only G w I on

  -- "Grades are 0 to N"
  pub grades_on_chain : (i : ℕ) → i < length G.terms → (e : ℕ) → e < I.size → grade_at G I i e ≤ G.steps
  grades_on_chain = grade_at_le G I w on

-- ---- of a book's bytes, b, and a sheet's, t, with a grid buffer that holds `grid`: where every check of working out says yes

module _ (b t grid : List ℕ) (ok : first_no (work_questions b t (length grid)) ≡ none) where
  -- the book is accepted, and the sheet stands for an interpretation on its chain: so the theorems above are of its grades
  pub book-is-accepted : Accepts b
  book-is-accepted = Grids.work_accepts b t grid ok

  pub sheet-is_on_chain : OnChain (book_of b).grading.steps (sheet_of t)
  sheet-is_on_chain = Grids.work_on_chain b t grid ok

  -- "The grid then holds each element's row of term grades, and bytes past it are kept."
  pub grid_holds_the_grades : (e i : ℕ) → e < (sheet_of t).size → i < length (book_of b).grading.terms
      → get_or (grid_after b t grid) (length (book_of b).grading.terms * e + i) 0 ≡ grade_at (book_of b).grading (sheet_of t) i e
  grid_holds_the_grades = Grids.grid_at b t grid ok

  pub grid_is-kept : drop (grid_size b t) (grid_after b t grid) ≡ drop (grid_size b t) grid
  grid_is-kept = Grids.grid_kept b t grid ok

  -- "The answer is "meets", or the first rule broken with its lowest element, else the first membership claim broken, else the first link claim.";
  -- "On a sheet, "meets" asks for every pair too, and a broken pair is named after the rules and before the claims, with its lowest first, then
  -- second element." (document 02, P1)
  pub answer-says : (v : Verdict) → (worked_of b t (length grid) ≡ Ok v) ↔ Says (book_of b) (sheet_of t) v
  answer-says = Grids.answered b t grid ok
