-- What working out a sheet leaves in the grid and answers, where every check says yes; and that a refusal keeps the grid.
-- Assumes nothing.
use mathlib.Core.Path.{◌≡◌, refl, sym, ap, ◌∙◌}
use mathlib.Core.Logic.Iff
use mathlib.Core.Logic.{◌↔◌}
use mathlib.Core.Option.{none}
use mathlib.Core.List.{List}
use Prim.Native.Nat.{ℕ, ◌+◌, ◌*◌, ◌<◌}
use native.Mathlib.Nat.{mul-suc, mul_comm, mul-le-mul_left}
use native.Mathlib.Omega.{arith}
use lib.ListN.{length, get_or, drop, get_or-append}
use lib.Seq.{drop_at}
use Rattle.std.specs.Prelude.{Ok, Err}
use Rattle.refusals.specs.Questions.{first_no}
use Rattle.refusals.specs.declared.Refusal.{Refusal}
use Rattle.refusals.proofs.Questions.{first-both}
use Rattle.refusals.proofs.Answers.{answer_no}
use Rattle.chain.proofs.Lists.{length-table, get_or-table}
use Rattle.semantics.specs.Interpretations.{Grading, Interpretation, OnChain, grade_at}
use Rattle.book.specs.Opening.{Accepts, book_questions}
use Rattle.book.specs.Reading.{book_of}
use Rattle.working.specs.Grids.{grades_at, grid_of}
use Rattle.working.specs.Working.{Says}
use Rattle.working.specs.declared.Verdict.{Verdict}
use Rattle.working.proofs.Working.{verdict_says}
use Rattle.sheets.specs.Reading.{sheet_of}
use Rattle.sheets.proofs.Opening.{none_right}
use Rattle.sheets.proofs.Reading.{sheet_on_chain}
use Rattle.chain.proofs.Blocks.{length_blocks, at_rows}
use Rattle.checker.specs.Working.{grid_size, book_sheet_questions, work_questions, worked_by, worked_of, grid_after}
use Rattle.checker.proofs.Working.{worked_says, worked_verdict, grid_worked, grid_refused}

module _ (b t grid : List ℕ) (ok : first_no (work_questions b t (length grid)) ≡ none) where
  abbrev G : Grading
  G = (book_of b).grading

  abbrev I : Interpretation
  I = sheet_of t

  abbrev width : ℕ
  width = length G.terms

  questions : (first_no (book_questions b) ≡ none) × (first_no (book_sheet_questions b t) ≡ none)
  questions =
      let q = first-both (book_questions b) _ ok in
      (q.0, (first-both (book_sheet_questions b t) _ q.1).0)

  pub work_accepts : Accepts b
  unfolding Accepts
  work_accepts = questions.0

  pub work_on_chain : OnChain G.steps I
  unfolding sheet_of
  work_on_chain = sheet_on_chain t _ _ _ _ _ (none_right t _ _ _ _ questions.1)

  size_is : grid_size b t ≡ I.size * width
  unfolding grid_size sheet_of
  size_is = refl

  length_grid : length (grid_of G I) ≡ I.size * width
  unfolding grid_of
  length_grid = length_blocks (grades_at G I) width (λ e. length-table (λ i. grade_at G I i e) width) 0 I.size

  within : (e i : ℕ) → e < I.size → i < width → width * e + i < length (grid_of G I)
  within e i h l = omega (arith, length_grid, mul-suc width e, mul_comm I.size width, mul-le-mul_left width h)

  pub grid_at : (e i : ℕ) → e < I.size → i < width → get_or (grid_after b t grid) (width * e + i) 0 ≡ grade_at G I i e
  unfolding grid_of
  grid_at e i h l =
      ap (λ (xs : List ℕ). get_or xs (width * e + i) 0) (grid_worked b t grid ok)
      ∙ get_or-append (grid_of G I) (drop (grid_size b t) grid) 0 (width * e + i) (within e i h l)
      ∙ at_rows (grades_at G I) width (λ e. length-table (λ i. grade_at G I i e) width) I.size e i h l
      ∙ get_or-table (λ i. grade_at G I i e) width i 0 l

  pub grid_kept : drop (grid_size b t) (grid_after b t grid) ≡ drop (grid_size b t) grid
  grid_kept = rw (grid_worked b t grid ok) (drop_at (grid_of G I) (drop (grid_size b t) grid) (grid_size b t) (length_grid ∙ sym size_is))

  pub answered : (v : Verdict) → (worked_of b t (length grid) ≡ Ok v) ↔ Says (book_of b) I v
  answered v = Iff.trans (worked_verdict (book_of b) I _ v, λ e. worked_says (book_of b) I _ ok ∙ ap Ok e) (verdict_says (book_of b) I v)

pub work_refused : (b t grid : List ℕ) (r : Refusal) → worked_of b t (length grid) ≡ Err r → grid_after b t grid ≡ grid
unfolding worked_by
work_refused b t grid r e = grid_refused _ _ _ grid r (answer_no _ _ r e)
