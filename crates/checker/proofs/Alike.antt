-- Accepted books with the same terms, which count names, roles and individuals alike: of every sheet they ask the same questions, and leave the same
-- grid; and where interpretations meet the one exactly when they meet the other, so do sheets.
-- Assumes nothing.
use mathlib.Core.Path.{◌≡◌, sym, ap, ◌∙◌}
use mathlib.Core.Logic.Iff
use mathlib.Core.Logic.{◌↔◌}
use mathlib.Core.List.{List, [], ◌∷◌, ◌++◌}
use Prim.Native.Nat.{ℕ, ◌*◌}
use native.Mathlib.Decide.{dec_le}
use lib.ListN.{length, drop}
use Rattle.std.specs.Prelude.{Ok}
use Rattle.refusals.specs.Questions.{Question, ask, first_no}
use Rattle.refusals.specs.declared.Refusal.TheVariants as refusal
use Rattle.refusals.proofs.Questions.{first-none-append}
use Rattle.refusals.proofs.Answers.{checked_alike}
use Rattle.semantics.specs.Interpretations.{Grading, Interpretation}
use Rattle.semantics.specs.Books.{Book, name_count, role_count, individuals}
use Rattle.semantics.proofs.Claims.{written, written-individuals, written_meets}
use Rattle.book.specs.Reading.{book_of}
use Rattle.book.specs.Opening.{book_questions, Accepts}
use Rattle.working.specs.Grids.{grid_of}
use Rattle.working.specs.Working.{verdict_of}
use Rattle.working.specs.declared.Verdict.TheVariants.{Meets}
use Rattle.working.proofs.Working.{verdict_says}
use Rattle.shapes.specs.Layout.{shape_of}
use Rattle.sheets.specs.Reading.{sheet_of}
use Rattle.sheets.specs.Opening.{sheet_questions}
use Rattle.checker.specs.Working.{grid_by, grid_size, work_questions, worked_of, grid_after}
use Rattle.checker.proofs.Working.{worked_met}

-- what the questions of working out go by
pub record SameCounts (b c : List ℕ) : Type 0 where
  pub grading_same : (book_of b).grading ≡ (book_of c).grading
  pub names_same : name_count (book_of b) ≡ name_count (book_of c)
  pub roles_same : role_count (book_of b) ≡ role_count (book_of c)
  pub individuals_same : individuals (book_of b) ≡ individuals (book_of c)

-- a book and the one with its claims written out count alike, and interpretations meet the one exactly when they meet the other
module _ (b c : List ℕ) (e : book_of c ≡ written (book_of b)) where
  pub counts_written : SameCounts b c
  unfolding name_count role_count
  counts_written = record {
    grading_same = ap (λ (A : Book). A.grading) (sym e);
    names_same = ap name_count (sym e);
    roles_same = ap role_count (sym e);
    individuals_same = sym (ap individuals e ∙ written-individuals (book_of b));
  }

  pub verdict_written : (I : Interpretation) → (verdict_of (book_of b) I ≡ Meets) ↔ (verdict_of (book_of c) I ≡ Meets)
  verdict_written I =
      let w = written_meets (book_of b) I in
      rw e (Iff.trans (verdict_says (book_of b) I Meets)
      (Iff.trans (λ h. (h.0, h.1, w.1 h.2, h.3), λ h. (h.0, h.1, w.0 h.2, h.3)) (Iff.symm (verdict_says (written (book_of b)) I Meets))))

module _ (b c : List ℕ) (ok : Accepts b) (also : Accepts c) (same : SameCounts b c) (t : List ℕ) where
  abbrev B : Book
  B = book_of b

  abbrev C : Book
  C = book_of c

  -- 13 to 16, by the terms and the counts
  abbrev then : Grading → (A R I g : ℕ) → List Question
  then G A R I g = sheet_questions t (shape_of t) G.steps A R I ++ (ask refusal.Grid (dec_le ((shape_of t).elements * length G.terms) g) ∷ [])

  questions_alike : (g : ℕ) → first_no (work_questions b t g) ≡ first_no (work_questions c t g)
  unfolding Accepts grid_size
  questions_alike g =
      first-none-append (book_questions b) (then B.grading (name_count B) (role_count B) (individuals B) g) ok
      ∙ ap (λ (G : Grading). first_no (then G (name_count B) (role_count B) (individuals B) g)) same.grading_same
      ∙ ap (λ (A : ℕ). first_no (then C.grading A (role_count B) (individuals B) g)) same.names_same
      ∙ ap (λ (R : ℕ). first_no (then C.grading (name_count C) R (individuals B) g)) same.roles_same
      ∙ ap (λ (I : ℕ). first_no (then C.grading (name_count C) (role_count C) I g)) same.individuals_same
      ∙ sym (first-none-append (book_questions c) (then C.grading (name_count C) (role_count C) (individuals C) g) also)

  pub grid_alike : (grid : List ℕ) → grid_after b t grid ≡ grid_after c t grid
  unfolding grid_by
  grid_alike grid =
      checked_alike (λ _. grid) _ _ (work_questions b t (length grid)) (work_questions c t (length grid)) (questions_alike (length grid))
      (λ _. ap (λ (G : Grading). grid_of G (sheet_of t) ++ drop ((sheet_of t).size * length G.terms) grid) same.grading_same)

  pub meets_alike : ((I : Interpretation) → (verdict_of (book_of b) I ≡ Meets) ↔ (verdict_of (book_of c) I ≡ Meets))
      → (g : ℕ) → (worked_of b t g ≡ Ok Meets) ↔ (worked_of c t g ≡ Ok Meets)
  meets_alike meet g = (
    λ e. let u = (worked_met B I (work_questions b t g)).0 e in (worked_met C I (work_questions c t g)).1 (sym (questions_alike g) ∙ u.0, (meet I).0 u.1),
    λ e. let u = (worked_met C I (work_questions c t g)).0 e in (worked_met B I (work_questions b t g)).1 (questions_alike g ∙ u.0, (meet I).1 u.1),
  )
    where
      I : Interpretation
      I = sheet_of t
