-- Accepted books with the same grading and the same rules have the same table of implied rules: the same answer, the same marks and the same bytes.
-- Claims play no part. Books whose terms are renumbered so that the places stay what they are have the same bytes through the renumbering, and terms with
-- the same grades the same row and the same column.
-- Assumes nothing.
use mathlib.Core.Path.{◌≡◌, refl, sym, ap, ap₂, ◌∙◌}
use mathlib.Core.Option.{none}
use mathlib.Core.List.{List, [], ◌∷◌, ◌++◌}
use Prim.Native.Nat.{ℕ, ◌+◌, ◌*◌, ◌<◌}
use native.Mathlib.Decide.{dec_le}
use lib.ListN.{length, get_or, drop}
use Rattle.std.specs.Prelude.{Ok, Err}
use Rattle.refusals.specs.Questions.{Question, ask, first_no}
use Rattle.refusals.specs.declared.Refusal.TheVariants as refusal
use Rattle.refusals.proofs.Questions.{first-none-append}
use Rattle.refusals.proofs.Answers.{checked_alike}
use Rattle.semantics.specs.Interpretations.{Grading}
use Rattle.semantics.specs.Books.{Book, Valid}
use Rattle.types.specs.Candidates.{candidates, grade_in}
use Rattle.types.proofs.Sharing.{RenumberedBook}
use Rattle.book.specs.Reading.{book_of}
use Rattle.book.specs.Opening.{book_questions, Accepts}
use Rattle.counter.specs.Counting.{few_candidates?}
use Rattle.elimination.specs.Survivors.{survivors, survivors_of}
use Rattle.marking.proofs.Marking.{marks-same}
use Rattle.subsumption.specs.Subsumption.{implied_table}
use Rattle.subsumption.proofs.Sharing.{byte_by_grades, byte-renumbered}
use Rattle.implied.specs.Implying.{implied_by, table_by, implied_questions, implied_of, table_marks_after, table_after}
use Rattle.implied.proofs.Implying.{table_at}

pub record SameRules (B C : Book) : Type 0 where
  pub grading_same : B.grading ≡ C.grading
  pub rules_same : B.rules ≡ C.rules

module _ (b c : List ℕ) (ok : Accepts b) (also : Accepts c) (same : SameRules (book_of b) (book_of c)) where
  candidates_same : candidates (book_of b).grading ≡ candidates (book_of c).grading
  candidates_same = ap candidates same.grading_same

  survivors_same : survivors_of (book_of b) ≡ survivors_of (book_of c)
  survivors_same = ap₂ survivors same.grading_same same.rules_same

  -- 10, 11 and 23, by the grading
  abbrev then : (m t : ℕ) → Grading → List Question
  then m t G =
      ask refusal.Candidates (dec_le (candidates G) 16384)
      ∷ ask refusal.Marks (dec_le (candidates G) m)
      ∷ ask refusal.Table (dec_le (length G.terms * length G.terms) t) ∷ []

  questions_alike : (m t : ℕ) → first_no (implied_questions b m t) ≡ first_no (implied_questions c m t)
  unfolding Accepts few_candidates?
  questions_alike m t =
      first-none-append (book_questions b) (then m t (book_of b).grading) ok ∙ ap (λ (G : Grading). first_no (then m t G)) same.grading_same
      ∙ sym (first-none-append (book_questions c) (then m t (book_of c).grading) also)

  pub implied_alike : (m t : ℕ) → implied_of b m t ≡ implied_of c m t
  unfolding implied_by
  implied_alike m t =
      checked_alike Err _ _ (implied_questions b m t) (implied_questions c m t) (questions_alike m t) (λ _. ap (λ (xs : List ℕ). Ok (length xs)) survivors_same)

  pub marks_alike : (t : ℕ) (marks : List ℕ) → table_marks_after b t marks ≡ table_marks_after c t marks
  marks_alike t marks =
      marks-same (book_of b) (book_of c) (implied_questions b (length marks) t) (implied_questions c (length marks) t) candidates_same survivors_same
      (questions_alike (length marks) t) marks

  pub table_alike : (m : ℕ) (table : List ℕ) → table_after b m table ≡ table_after c m table
  unfolding table_by
  table_alike m table =
      checked_alike (λ _. table) _ _ (implied_questions b m (length table)) (implied_questions c m (length table)) (questions_alike m (length table))
      (λ _. ap₂ (λ (G : Grading) (xs : List ℕ). implied_table G xs ++ drop (length G.terms * length G.terms) table) same.grading_same survivors_same)

-- ---- where no question says no

-- terms with the same grade in every candidate: the same row, and the same column
module _ (B : Book) (qs : List Question) (ok : first_no qs ≡ none) (table : List ℕ) (i j : ℕ) (h : i < length B.grading.terms) (l : j < length B.grading.terms)
    (same : (c : ℕ) → grade_in B.grading c i ≡ grade_in B.grading c j) where
  abbrev at : (x y : ℕ) → ℕ
  at x y = get_or (table_by B qs table) (length B.grading.terms * x + y) 0

  pub rows_same : (k : ℕ) → k < length B.grading.terms → at i k ≡ at j k
  rows_same k g =
      table_at B qs ok table i k h g ∙ byte_by_grades B.grading B.grading (survivors_of B) i k j k same (λ c. refl) ∙ sym (table_at B qs ok table j k l g)

  pub columns-same : (k : ℕ) → k < length B.grading.terms → at k i ≡ at k j
  columns-same k g =
      table_at B qs ok table k i g h ∙ byte_by_grades B.grading B.grading (survivors_of B) k i k j (λ c. refl) same ∙ sym (table_at B qs ok table k j g l)

-- terms that are renumbered
pub table-renumbered : (f : ℕ → ℕ) (B C : Book) (qs rs : List Question) → Valid B → RenumberedBook f B C → first_no qs ≡ none → first_no rs ≡ none
    → (s t : List ℕ) (i j : ℕ) → i < length B.grading.terms → j < length B.grading.terms
    → get_or (table_by B qs s) (length B.grading.terms * i + j) 0 ≡ get_or (table_by C rs t) (length C.grading.terms * f i + f j) 0
table-renumbered f B C qs rs v r ok also s t i j h l =
    let lands = r.terms_renumbered.lands in
    table_at B qs ok s i j h l ∙ byte-renumbered f B C v r i j h l ∙ sym (table_at C rs also t (f i) (f j) (lands i h) (lands j l))
