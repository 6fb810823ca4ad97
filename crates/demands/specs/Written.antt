-- "Writing a sheet, after deciding": what a sheet that was written stands for, and that it "meets". The sheet buffer is what `sheet_after` gives, by
-- the contract of `writer::write_sheet`. Sentences in quotation marks are document 01's.
-- Assumes nothing.
use Rattle.std.specs.Prelude.{◌≡◌, ℕ, ◌≤◌, length, take, drop, Ok}
use Rattle.std.proofs.Common.{sym, ap, ◌∙◌}
use Rattle.std.proofs.Math.Path.{subst}
use mathlib.Core.List.{List}
use Rattle.semantics.specs.Interpretations.{Agree}
use Rattle.semantics.specs.Books.{Valid, name_count, role_count, individuals}
use Rattle.layout.specs.Layout.{sections_of}
use Rattle.book.specs.Reading.{book_of}
use Rattle.book.specs.Opening.{Accepts}
use Rattle.book.proofs.Opening.{accepts_right}
use Rattle.book.proofs.Reading.{accepts_valid}
use Rattle.sheets.specs.Reading.{sheet_of}
use Rattle.working.specs.declared.Verdict.TheVariants.{Meets}
use Rattle.elimination.specs.Survivors.{survivors_of}
use Rattle.placement.specs.Outcome.{outcome}
use Rattle.checker.specs.Working.{grid_size, worked_of}
use Rattle.checker.proofs.Working as Working
use Rattle.decider.specs.Deciding.{marks_after, placement_after, interpretation_in}
use Rattle.written.specs.Writing.{model_bytes, written_of, sheet_after}
use Rattle.written.proofs.Writing as Writing

-- a call with these buffers wrote n bytes
module _ (b marks buffer sheet : List ℕ) (n : ℕ) (e : written_of b (length marks) (length buffer) (length sheet) ≡ Ok n) where
  abbrev sheet' : List ℕ
  sheet' = sheet_after b (length marks) (length buffer) sheet

  -- "Elements are the survivors, ascending; individuals sit at their placed types; a name number below A that no term uses is graded 0.": it
  -- stands for the interpretation that marks and placement give, as far as the book has names, roles and individuals
  pub written-sheet-is_the_model : Agree (name_count (book_of b)) (role_count (book_of b)) (individuals (book_of b))
      (interpretation_in b (marks_after b (length buffer) marks) (placement_after b (length marks) buffer)) (sheet_of (take n sheet'))
  written-sheet-is_the_model = Writing.written_stands b marks buffer sheet n e

  -- "bytes past the sheet are kept"
  pub sheet-is-kept : drop n sheet' ≡ drop n sheet
  sheet-is-kept = Writing.written-kept b (length marks) (length buffer) sheet n e

  -- and beyond: "a sheet that was written, worked out on the same book, "meets"", with a grid buffer of g bytes, which suffice
  pub written-sheet_meets : (g : ℕ) → grid_size b (take n sheet') ≤ g → worked_of b (take n sheet') g ≡ Ok Meets
  unfolding Accepts
  written-sheet_meets =
      subst (λ (t : List ℕ). (g : ℕ) → grid_size b t ≤ g → worked_of b t g ≡ Ok Meets) (sym (Writing.written_is b (length marks) (length buffer) sheet n e)) worked
    where
      u : Accepts b × (outcome (book_of b) ≡ 1) × (length (survivors_of (book_of b)) ≤ 64)
      u = Writing.written_after b (length marks) (length buffer) sheet n e

      v : Valid (book_of b)
      v = accepts_valid b u.0

      worked : (g : ℕ) → grid_size b (model_bytes (book_of b)) ≤ g → worked_of b (model_bytes (book_of b)) g ≡ Ok Meets
      worked g h =
          Working.worked_says _ _ _
          (Working.work_none b (model_bytes (book_of b)) (sections_of b) (accepts_right b u.0) (Writing.model_shape (book_of b))
          (Writing.model_right (book_of b) v u.1 u.2) g h)
          ∙ ap Ok (Writing.model_meets (book_of b) v u.1)
