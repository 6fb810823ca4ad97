-- What checking a sheet answers: the first check that says no, or the sheet's shape. Document 01, "Working out a sheet, after 9".
-- Assumes nothing.
use Rattle.std.specs.Prelude.{◌≡◌, List, [], ◌∷◌, ℕ, Result}
use Rattle.refusals.specs.Questions.{Question, ask}
use Rattle.refusals.specs.Answers.{answer}
use Rattle.refusals.specs.declared.Refusal.{Refusal}
use Rattle.refusals.specs.declared.Refusal.TheVariants as refusal
use Rattle.shapes.specs.Layout.{shape_of, HeadRight, head_right?, SheetLaidOut, sheet_laid_out?, EntriesRight, entries_right?}
use Rattle.shapes.specs.declared.Shape.{Shape}

-- of the sheet that stands in b by the shape p, for a book on N steps that has A names, R roles and I individuals
abbrev pub sheet_questions : List ℕ → Shape → (N A R I : ℕ) → List Question
sheet_questions b p N A R I =
    ask refusal.SheetHead (head_right? b p N A R I)
    ∷ ask refusal.SheetLayout (sheet_laid_out? b p)
    ∷ ask refusal.SheetEntries (entries_right? b p N) ∷ []

-- what those checks say yes to, and that p is the sheet's shape
pub record SheetRight (b : List ℕ) (p : Shape) (N A R I : ℕ) : Type 0 where
  pub shape_is : p ≡ shape_of b
  pub head_right : HeadRight b p N A R I
  pub laid_out : SheetLaidOut b p
  pub entries_right : EntriesRight b p N

-- the shape, where no question says no
unfoldable pub sheet_opened : List ℕ → (N A R I : ℕ) → Result Shape Refusal
sheet_opened b N A R I = answer (shape_of b) (sheet_questions b (shape_of b) N A R I)
