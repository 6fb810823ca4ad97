-- What code keeps while it works out a sheet: that the sheet fits the book, and what its columns hold. It stands in private contracts only.
-- Assumes nothing.
use Rattle.std.specs.Prelude.{List, ℕ}
use Rattle.semantics.specs.Books.{name_count, role_count, individuals}
use Rattle.book.specs.Reading.{book_of}
use Rattle.sheets.specs.Opening.{SheetRight}
use Rattle.sheets.specs.Reading.{sheet_of}
use Rattle.shapes.specs.declared.Shape.{Shape}
use Rattle.columns.specs.Columns.{HoldsGrades}
use Rattle.columns.specs.declared.Columns.{Columns}

-- what 13 to 15 say yes to, by the book's N, A, R and I: the sheet's bytes t have the shape p
abbrev pub SheetFits : (b t : List ℕ) → Shape → Type 0
SheetFits b t p = SheetRight t p (book_of b).grading.steps (name_count (book_of b)) (role_count (book_of b)) (individuals (book_of b))

-- the columns v hold the grades of the terms of the book b at the elements of the sheet t
unfoldable pub Filled : (b t : List ℕ) → Columns → Type 0
Filled b t v = HoldsGrades (book_of b).grading (sheet_of t) v
