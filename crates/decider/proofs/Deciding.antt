-- Laws of deciding: which checks that were made give which answer, marks and placement.
-- Assumes nothing.
use mathlib.Core.Path.{◌≡◌, refl, sym, ap}
use mathlib.Core.Option.{Option, none, some}
use mathlib.Core.List.{List, [], ◌∷◌}
use Prim.Native.Nat.{ℕ, ◌≤◌}
use native.Mathlib.Decide.{dec_le}
use lib.ListN.{length}
use Rattle.std.specs.Prelude.{Ok, Err}
use Rattle.refusals.specs.Questions.{Question, first_no}
use Rattle.refusals.specs.Answers.{checked_by, refusal_in}
use Rattle.refusals.proofs.Questions.{two_before, two_first, two_second, two_none, two_both}
use Rattle.refusals.proofs.Answers.{checked-value, checked-refused, answer_refusal, answer_no, answer_yes}
use Rattle.refusals.specs.declared.Refusal.{Refusal}
use Rattle.refusals.specs.declared.Refusal.TheVariants as refusal
use Rattle.semantics.specs.Books.{Book}
use Rattle.types.specs.Candidates.{candidates}
use Rattle.book.specs.Reading.{book_of}
use Rattle.counter.specs.Counting.{candidate_questions}
use Rattle.elimination.specs.Survivors.{survivors_of}
use Rattle.placement.specs.Outcome.{placement, outcome_of, outcome}
use Rattle.marking.specs.Marking.{marked_in, marks_by}
use Rattle.marking.proofs.Marking.{marks-refused, marks-are}
use Rattle.decisions.specs.Decided.{decision, placed_in}
use Rattle.decider.specs.Deciding.{decision_by, placement_by, decide_questions}
use Rattle.decisions.proofs.Decided.{outcome_3_kept}
use Rattle.decisions.specs.declared.Decision.{Decision}

-- ---- the first no

module _ (b : List ℕ) (m p : ℕ) where
  abbrev qs : List Question
  qs = candidate_questions b

  abbrev marks? : Dec (candidates (book_of b).grading ≤ m)
  marks? = dec_le (candidates (book_of b).grading) m

  pub decide_before : (r : Refusal) → first_no qs ≡ some r → first_no (decide_questions b m p) ≡ some r
  decide_before = two_before qs refusal.Marks refusal.Placement marks? (dec_le 16 p)

  pub decide_11 : first_no qs ≡ none → ¬ (candidates (book_of b).grading ≤ m) → first_no (decide_questions b m p) ≡ some refusal.Marks
  decide_11 = two_first qs refusal.Marks refusal.Placement marks? (dec_le 16 p)

  pub decide_12 : first_no qs ≡ none → candidates (book_of b).grading ≤ m → ¬ (16 ≤ p) → first_no (decide_questions b m p) ≡ some refusal.Placement
  decide_12 = two_second qs refusal.Marks refusal.Placement marks? (dec_le 16 p)

  pub decide_none : first_no qs ≡ none → candidates (book_of b).grading ≤ m → 16 ≤ p → first_no (decide_questions b m p) ≡ none
  decide_none = two_none qs refusal.Marks refusal.Placement marks? (dec_le 16 p)

  -- what it takes that none says no
  pub decide_both : first_no (decide_questions b m p) ≡ none → (first_no qs ≡ none) × (candidates (book_of b).grading ≤ m) × (16 ≤ p)
  decide_both = two_both qs refusal.Marks refusal.Placement marks? (dec_le 16 p)

-- ---- the answer and the buffers, by it

module _ (B : Book) (qs : List Question) where
  -- a refusal changes no buffer
  pub refused : (marks buffer : List ℕ) (r : Refusal) → first_no qs ≡ some r
      → (Err r ≡ decision_by B qs) × ((marks ≡ marks_by B qs marks) × (buffer ≡ placement_by B qs buffer))
  unfolding decision_by placement_by
  refused marks buffer r e =
      (sym (checked-refused Err _ qs r e), (sym (marks-refused B qs marks r e), sym (checked-refused (λ _. buffer) _ qs r e)))

  pub settled : (marks buffer : List ℕ) → first_no qs ≡ none
      → (Ok (decision B) ≡ decision_by B qs) × ((marked_in B marks ≡ marks_by B qs marks) × (placed_in (placement B) buffer ≡ placement_by B qs buffer))
  unfolding decision_by placement_by
  settled marks buffer e = (sym (checked-value Err _ qs e), (sym (marks-are B qs marks e), sym (checked-value (λ _. buffer) _ qs e)))

  -- and back: what an answer says of the questions
  pub decision-refused : (r : Refusal) → decision_by B qs ≡ Err r → first_no qs ≡ some r
  unfolding decision_by
  decision-refused = answer_no _ qs

  pub decision_decided : (d : Decision) → decision_by B qs ≡ Ok d → (first_no qs ≡ none) × (decision B ≡ d)
  unfolding decision_by
  decision_decided = answer_yes _ qs

  -- the answer's refusal is the first no
  pub decision_refusal : refusal_in (decision_by B qs) ≡ first_no qs
  unfolding decision_by
  decision_refusal = answer_refusal _ qs

-- "for outcome 1 only": without it the buffer keeps its contents
pub kept_without_outcome_1 : (B : Book) (qs : List Question) (buffer : List ℕ) → ¬ (outcome B ≡ 1) → placement_by B qs buffer ≡ buffer
unfolding placement_by outcome
kept_without_outcome_1 B qs buffer n = by (first_no qs)
  where
    go : (xs : List ℕ) → survivors_of B ≡ xs → (o : Option (List ℕ)) → placement B ≡ o → ¬ (outcome_of B xs o ≡ 1) → placed_in (placement B) buffer ≡ buffer
    go [] e o f k = sym (outcome_3_kept B (ap length e) buffer)
    go (x ∷ xs) e none f k = ap (λ (z : Option (List ℕ)). placed_in z buffer) f
    go (x ∷ xs) e (some p) f k = absurd (k refl)

    by : (o : Option Refusal) → checked_by (λ _. buffer) (placed_in (placement B) buffer) o ≡ buffer
    by none = go (survivors_of B) refl (placement B) refl n
    by (some r) = refl
