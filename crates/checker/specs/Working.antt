-- What working out a sheet on a book answers, and what it leaves in the grid: after the checks 1 to 9 and 22, 13 to 15 and then 16.
-- Assumes nothing.
use Rattle.std.specs.Prelude.{List, [], ◌∷◌, ◌++◌, ℕ, ◌*◌, length, drop, Result}
use Rattle.std.proofs.Math.Decide.{dec_le}
use Rattle.refusals.specs.Questions.{Question, ask}
use Rattle.refusals.specs.Answers.{answer, left}
use Rattle.refusals.specs.declared.Refusal.{Refusal}
use Rattle.refusals.specs.declared.Refusal.TheVariants as refusal
use Rattle.semantics.specs.Interpretations.{Interpretation}
use Rattle.semantics.specs.Books.{Book, name_count, role_count, individuals}
use Rattle.book.specs.Reading.{book_of}
use Rattle.book.specs.Opening.{book_questions}
use Rattle.working.specs.Grids.{grid_of}
use Rattle.working.specs.Working.{verdict_of}
use Rattle.shapes.specs.Layout.{shape_of}
use Rattle.sheets.specs.Reading.{sheet_of}
use Rattle.sheets.specs.Opening.{sheet_questions}
use Rattle.working.specs.declared.Verdict.{Verdict}

-- ---- of a book and a sheet that were read, after questions

module _ (B : Book) (I : Interpretation) (qs : List Question) where
  -- the verdict
  unfoldable pub worked_by : Result Verdict Refusal
  worked_by = answer (verdict_of B I) qs

  -- "The grid then holds each element's row of term grades, and bytes past it are kept"; a refusal changes nothing
  unfoldable pub grid_by : List ℕ → List ℕ
  grid_by grid = left grid (grid_of B.grading I ++ drop (I.size * length B.grading.terms) grid) qs

-- ---- of the book's bytes b and the sheet's bytes t

module _ (b t : List ℕ) where
  -- "n times the term count"
  unfoldable pub grid_size : ℕ
  grid_size = (shape_of t).elements * length (book_of b).grading.terms

  -- 13 to 15, by the book's N, A, R and I
  abbrev pub book_sheet_questions : List Question
  book_sheet_questions =
      sheet_questions t (shape_of t) (book_of b).grading.steps (name_count (book_of b)) (role_count (book_of b)) (individuals (book_of b))

  -- "Working out a sheet, after 9", with a grid buffer of g bytes: .. "Has the grid buffer n times the term count?"
  abbrev pub work_questions : (g : ℕ) → List Question
  work_questions g = book_questions b ++ (book_sheet_questions ++ (ask refusal.Grid (dec_le grid_size g) ∷ []))

  abbrev pub worked_of : (g : ℕ) → Result Verdict Refusal
  worked_of g = worked_by (book_of b) (sheet_of t) (work_questions g)

  abbrev pub grid_after : List ℕ → List ℕ
  grid_after grid = grid_by (book_of b) (sheet_of t) (work_questions (length grid)) grid
