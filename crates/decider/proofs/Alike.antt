-- Accepted books with the same candidates, survivors, outcome and placement are decided alike: the same answer, the same marks and the same
-- placement. Books that read alike are such, a book and the one with its sets written out, and a book and one whose terms are renumbered so that the
-- places stay what they are.
-- Assumes nothing.
use mathlib.Core.Path.{◌≡◌, sym, ap, ◌∙◌}
use mathlib.Core.Option.{Option}
use mathlib.Core.List.{List, [], ◌∷◌}
use Prim.Native.Nat.{ℕ}
use native.Mathlib.Decide.{dec_le}
use lib.ListN.{length}
use Rattle.std.specs.Prelude.{Err}
use Rattle.refusals.specs.Questions.{Question, ask, first_no}
use Rattle.refusals.proofs.Questions.{first-none-append}
use Rattle.refusals.proofs.Answers.{checked_alike}
use Rattle.refusals.specs.declared.Refusal.TheVariants as refusal
use Rattle.semantics.specs.Books.{Book, Valid}
use Rattle.semantics.proofs.Claims.{written}
use Rattle.types.specs.Candidates.{candidates}
use Rattle.types.proofs.Sharing.{RenumberedBook, candidates-renumbered}
use Rattle.book.specs.Reading.{book_of}
use Rattle.book.specs.Opening.{book_questions, Accepts}
use Rattle.counter.specs.Counting.{few_candidates?}
use Rattle.elimination.specs.Survivors.{survivors_of}
use Rattle.elimination.proofs.Sharing.{survivors-renumbered}
use Rattle.placement.specs.Outcome.{placement, outcome}
use Rattle.placement.proofs.Singles.{written-placement, written-outcome}
use Rattle.placement.proofs.Sharing.{placement-renumbered, outcome-renumbered}
use Rattle.marking.proofs.Marking.{marks-same}
use Rattle.decisions.specs.Decided.{placed_in}
use Rattle.decider.specs.Deciding.{decision_by, placement_by, decide_questions, decision_of, marks_after, placement_after}

pub record SameDecision (B C : Book) : Type 0 where
  pub candidates_same : candidates B.grading ≡ candidates C.grading
  pub survivors_same : survivors_of B ≡ survivors_of C
  pub outcome_same : outcome B ≡ outcome C
  pub placement_same : placement B ≡ placement C

pub same-book : (B C : Book) → B ≡ C → SameDecision B C
same-book B C e = record {
  candidates_same = ap (λ (A : Book). candidates A.grading) e;
  survivors_same = ap survivors_of e;
  outcome_same = ap outcome e;
  placement_same = ap placement e;
}

-- and so are a book and the one with its claims written out
pub same-written : (B C : Book) → C ≡ written B → SameDecision B C
same-written B C e = record {
  candidates_same = ap (λ (A : Book). candidates A.grading) (sym e);
  survivors_same = ap survivors_of (sym e);
  outcome_same = sym (ap outcome e ∙ written-outcome B);
  placement_same = sym (ap placement e ∙ written-placement B);
}

-- and so are a book and one whose terms are renumbered so that the places stay what they are
pub same-renumbered : (f : ℕ → ℕ) (B C : Book) → Valid B → RenumberedBook f B C → SameDecision B C
same-renumbered f B C v r =
    let us = C.grading.terms in
    let w = r.formed in
    let re = r.terms_renumbered in
    let e = sym r.book_is in record {
      candidates_same = candidates-renumbered B.grading us f v.well_formed w re ∙ ap (λ (A : Book). candidates A.grading) e;
      survivors_same = survivors-renumbered B us f v w re ∙ ap survivors_of e;
      outcome_same = outcome-renumbered B us f v w re ∙ ap outcome e;
      placement_same = placement-renumbered B us f v w re ∙ ap placement e;
    }

module _ (b c : List ℕ) (ok : Accepts b) (also : Accepts c) (same : SameDecision (book_of b) (book_of c)) where
  questions_alike : (m p : ℕ) → first_no (decide_questions b m p) ≡ first_no (decide_questions c m p)
  unfolding Accepts few_candidates?
  questions_alike m p =
      first-none-append (book_questions b) (then (candidates (book_of b).grading)) ok
      ∙ ap (λ (k : ℕ). first_no (then k)) same.candidates_same
      ∙ sym (first-none-append (book_questions c) (then (candidates (book_of c).grading)) also)
    where
      then : ℕ → List Question
      then k = ask refusal.Candidates (dec_le k 16384) ∷ ask refusal.Marks (dec_le k m) ∷ ask refusal.Placement (dec_le 16 p) ∷ []

  pub decided_alike : (m p : ℕ) → decision_of b m p ≡ decision_of c m p
  unfolding decision_by
  decided_alike m p = checked_alike Err _ _ (decide_questions b m p) (decide_questions c m p) (questions_alike m p) (λ _. rw (same.outcome_same, same.survivors_same))

  pub marks_alike : (p : ℕ) (marks : List ℕ) → marks_after b p marks ≡ marks_after c p marks
  marks_alike p marks =
      marks-same (book_of b) (book_of c) (decide_questions b (length marks) p) (decide_questions c (length marks) p) same.candidates_same same.survivors_same
      (questions_alike (length marks) p) marks

  pub placement_alike : (m : ℕ) (buffer : List ℕ) → placement_after b m buffer ≡ placement_after c m buffer
  unfolding placement_by
  placement_alike m buffer =
      checked_alike (λ _. buffer) _ _ (decide_questions b m (length buffer)) (decide_questions c m (length buffer)) (questions_alike m (length buffer))
      (λ _. ap (λ (o : Option (List ℕ)). placed_in o buffer) same.placement_same)
