-- Laws of the two questions: which checks that were made give which answer; and what an accepted book's section of terms gives the code that
-- works out grades by it.
-- Assumes nothing.
use mathlib.Core.Path.{◌≡◌}
use mathlib.Core.Option.{none, some}
use mathlib.Core.List.{List, [], ◌∷◌, ◌++◌}
use Prim.Native.Nat.{ℕ, ◌≤◌, ◌<◌}
use Rattle.std.specs.Prelude.{Ok, Err}
use native.Mathlib.Decide.{dec_lt}
use lib.ListN.{length}
use Rattle.refusals.specs.Questions.{Question, ask, first_no}
use Rattle.refusals.specs.Answers.{refusal_in}
use Rattle.refusals.proofs.Questions.{two_before, two_first, two_second, two_none}
use Rattle.refusals.proofs.Answers.{checked-value, checked-refused, answer_refusal}
use Rattle.refusals.specs.declared.Refusal.{Refusal}
use Rattle.refusals.specs.declared.Refusal.TheVariants as refusal
use Rattle.sections.specs.Terms.{term_count, TermsRight}
use Rattle.layout.specs.Layout.{term_bytes, terms_in}
use Rattle.types.specs.Candidates.{candidates}
use Rattle.book.specs.Opening.{Right}
use Rattle.book.specs.Reading.{book_of}
use Rattle.counter.specs.Counting.{candidate_questions}
use Rattle.layout.specs.declared.Sections.{Sections}
use Rattle.book.proofs.Reading.{right-terms, right-few}
use Rattle.asking.specs.Asking.{grade_questions, graded_by}

-- ---- a grade, after questions

module _ (g : ℕ) (qs : List Question) where
  -- where no question says no
  pub graded-is : first_no qs ≡ none → graded_by g qs ≡ Ok g
  unfolding graded_by
  graded-is = checked-value Err _ qs

  pub graded_no : (r : Refusal) → first_no qs ≡ some r → graded_by g qs ≡ Err r
  unfolding graded_by
  graded_no = checked-refused Err _ qs

  -- the answer's refusal is the first no
  pub graded_refusal : refusal_in (graded_by g qs) ≡ first_no qs
  unfolding graded_by
  graded_refusal = answer_refusal _ qs

-- two questions more after those on the book
module _ (g : ℕ) (qs : List Question) {A B : Type 0} (m n : Refusal) (d : Dec A) (e : Dec B) where
  abbrev asked : List Question
  asked = qs ++ (ask m d ∷ ask n e ∷ [])

  pub graded-before : (k : Refusal) → first_no qs ≡ some k → graded_by g asked ≡ Err k
  graded-before k h = graded_no g asked k (two_before qs m n d e k h)

  pub graded-first : first_no qs ≡ none → ¬ A → graded_by g asked ≡ Err m
  graded-first h a = graded_no g asked m (two_first qs m n d e h a)

  pub graded_second : first_no qs ≡ none → A → ¬ B → graded_by g asked ≡ Err n
  graded_second h a b = graded_no g asked n (two_second qs m n d e h a b)

  pub graded-both : first_no qs ≡ none → A → B → graded_by g asked ≡ Ok g
  graded-both h a b = graded-is g asked (two_none qs m n d e h a b)

-- the section of terms, as code is handed it
pub terms_fit : (b : List ℕ) (s : Sections) → Right b s → (ts : List ℕ) → ts ≡ term_bytes b s → TermsRight ts × (term_count ts ≡ terms_in s) × (terms_in s ≤ 64)
terms_fit b s ok ts are = (rw are ok.terms_right, rw are (right-terms b s ok), right-few b s ok)

-- no question says no to a candidate and a term that there are
pub grade-none : (b : List ℕ) → first_no (candidate_questions b) ≡ none → (c i : ℕ) → c < candidates (book_of b).grading → i < length (book_of b).grading.terms
    → first_no (grade_questions b c i) ≡ none
grade-none b h c i = two_none (candidate_questions b) refusal.Candidate refusal.TermOrRole (dec_lt c (candidates (book_of b).grading)) (dec_lt i (length (book_of b).grading.terms)) h
