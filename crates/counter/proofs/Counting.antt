-- Laws of counting: which answer follows the checks, and what it says of them and of the candidates.
-- Assumes nothing.
use mathlib.Core.Path.{◌≡◌, refl, ap, subst, ◌∙◌}
use mathlib.Core.Option.{none, some}
use mathlib.Core.List.{List, [], ◌∷◌}
use Prim.Native.Nat.{ℕ, ◌≤◌, ◌<◌}
use native.Mathlib.Omega.{arith}
use Rattle.std.specs.Prelude.{Ok, Err}
use Rattle.refusals.specs.Questions.{Question, ask, first_no}
use Rattle.refusals.specs.Answers.{refusal_in}
use Rattle.refusals.proofs.Questions.{first_empty, first_yes, first_no_lem, first-none, first-some-append, first-none-append, first-both}
use Rattle.refusals.proofs.Answers.{checked-value, checked-refused, answer_refusal, answer_no, answer_yes}
use Rattle.refusals.specs.declared.Refusal.{Refusal}
use Rattle.refusals.specs.declared.Refusal.TheVariants as refusal
use Rattle.semantics.specs.Interpretations.{Grading, graded}
use Rattle.semantics.specs.Books.{Book}
use Rattle.types.specs.Candidates.{candidates}
use Rattle.sections.specs.Terms.{terms_of}
use Rattle.layout.specs.Layout.{term_bytes}
use Rattle.book.specs.Reading.{book_of}
use Rattle.book.specs.Opening.{book_questions, Accepts, Right, opened_of}
use Rattle.layout.specs.declared.Sections.{Sections}
use Rattle.book.proofs.Opening.{opened_refused, opened_accepted, right_accepts}
use Rattle.counter.specs.Counting.{few_candidates?, counted_by, candidate_questions, counted_of}

-- ---- of a book that was read, after questions

module _ (B : Book) (qs : List Question) where
  -- where no question says no
  pub counted_is : first_no qs ≡ none → counted_by B qs ≡ Ok (candidates B.grading)
  unfolding counted_by
  counted_is = checked-value Err _ qs

  pub counted_no : (r : Refusal) → first_no qs ≡ some r → counted_by B qs ≡ Err r
  unfolding counted_by
  counted_no = checked-refused Err _ qs

  -- the answer's refusal is the first no
  pub counted_refusal : refusal_in (counted_by B qs) ≡ first_no qs
  unfolding counted_by
  counted_refusal = answer_refusal _ qs

  pub counted_declined : (r : Refusal) → counted_by B qs ≡ Err r → first_no qs ≡ some r
  unfolding counted_by
  counted_declined = answer_no _ qs

  pub counted-candidates : (k : ℕ) → counted_by B qs ≡ Ok k → (first_no qs ≡ none) × (candidates B.grading ≡ k)
  unfolding counted_by
  counted-candidates = answer_yes _ qs

-- so there are few
pub counted_small : (b : List ℕ) (k : ℕ) → counted_of b ≡ Ok k → k ≤ 16384
counted_small b k h =
    let e = counted-candidates _ _ k h in
    omega (arith, e.1, (first-none refusal.Candidates (few_candidates? (book_of b)) [] (first-both (book_questions b) _ e.0).1).0)

pub counted-few_candidates : (b : List ℕ) (k : ℕ) → counted_of b ≡ Ok k → candidates (book_of b).grading ≤ 16384
counted-few_candidates b k h = omega (arith, (counted-candidates _ _ k h).1, counted_small b k h)

-- ---- of a book's bytes: which answer follows the checks

pub counted-refused : (b : List ℕ) (r : Refusal) → opened_of b ≡ Err r → counted_of b ≡ Err r
counted-refused b r e = counted_no _ _ r (first-some-append (book_questions b) _ r (opened_refused b r e))

module _ (b : List ℕ) (s : Sections) (e : opened_of b ≡ Ok s) where
  ok : Right b s
  ok = opened_accepted b s e

  -- pairs play no part in it
  abbrev G : Grading
  G = graded s.steps (terms_of (term_bytes b s)) []

  few : (k : ℕ) → candidates G ≡ k → candidates (book_of b).grading ≡ k
  unfolding book_of candidates
  few k h = subst (λ (t : Sections). candidates (graded t.steps (terms_of (term_bytes b t)) []) ≡ k) ok.sections_are h

  asked : first_no (candidate_questions b) ≡ first_no (ask refusal.Candidates (few_candidates? (book_of b)) ∷ [])
  unfolding Accepts
  asked = first-none-append (book_questions b) _ (right_accepts b s ok)

  pub counted-few : (k : ℕ) → candidates G ≡ k → k ≤ 16384 → counted_of b ≡ Ok k
  counted-few k h l =
      counted_is _ _ (asked ∙ first_yes refusal.Candidates (few_candidates? (book_of b)) [] (omega (arith, few k h)) ∙ first_empty) ∙ ap Ok (few k h)

  pub counted_many : 16384 < candidates G → counted_of b ≡ Err refusal.Candidates
  counted_many l =
      counted_no _ _ refusal.Candidates (asked ∙ first_no_lem refusal.Candidates (few_candidates? (book_of b)) [] (λ h. omega (arith, few (candidates G) refl)))
