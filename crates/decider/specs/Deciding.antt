-- What deciding a book answers, and what it leaves in the marks and in the placement: after the checks 1 to 9, 22 and 10, 11 and then 12. Document 01,
-- "Types and links" and "Deciding, then".
-- Assumes nothing.
use Rattle.std.specs.Prelude.{◌≡◌, ◌⊎◌, List, [], ◌∷◌, ◌++◌, ℕ, ◌*◌, length, Result, Ok, Err}
use Rattle.std.proofs.Math.Option.{none}
use Rattle.std.proofs.Math.Decide.{dec_le}
use Rattle.chain.specs.Lists.{table}
use Rattle.refusals.specs.Questions.{Question, ask, first_no}
use Rattle.refusals.specs.Answers.{answer, left}
use Rattle.refusals.specs.declared.Refusal.{Refusal}
use Rattle.refusals.specs.declared.Refusal.TheVariants as refusal
use Rattle.semantics.specs.Interpretations.{Interpretation}
use Rattle.semantics.specs.Books.{Book, individuals}
use Rattle.types.specs.Candidates.{candidates}
use Rattle.book.specs.Reading.{book_of}
use Rattle.encoding.specs.Words.{word_at}
use Rattle.counter.specs.Counting.{candidate_questions}
use Rattle.elimination.specs.Marks.{marked}
use Rattle.placement.specs.Outcome.{placement, placed_among}
use Rattle.marking.specs.Marking.{marks_by}
use Rattle.decisions.specs.Decided.{decision, outcome_number, placed_in}
use Rattle.decisions.specs.declared.Decision.{Decision}

-- ---- of a book that was read, after questions

module _ (B : Book) (qs : List Question) where
  -- the decision
  unfoldable pub decision_by : Result Decision Refusal
  decision_by = answer (decision B) qs

  -- the placement, "for outcome 1 only" (`kept_without_outcome_1` of proofs/Deciding)
  unfoldable pub placement_by : List ℕ → List ℕ
  placement_by buffer = left buffer (placed_in (placement B) buffer) qs

-- ---- of a book's bytes

module _ (b : List ℕ) where
  -- with m mark bytes and p placement bytes: "Has the marks buffer a byte for each?" "Has the placement buffer 16 bytes?"
  abbrev pub decide_questions : (m p : ℕ) → List Question
  decide_questions m p = candidate_questions b ++ (ask refusal.Marks (dec_le (candidates (book_of b).grading) m) ∷ ask refusal.Placement (dec_le 16 p) ∷ [])

  abbrev pub decision_of : (m p : ℕ) → Result Decision Refusal
  decision_of m p = decision_by (book_of b) (decide_questions m p)

  abbrev pub marks_after : (p : ℕ) → List ℕ → List ℕ
  marks_after p marks = marks_by (book_of b) (decide_questions (length marks) p) marks

  abbrev pub placement_after : (m : ℕ) → List ℕ → List ℕ
  placement_after m buffer = placement_by (book_of b) (decide_questions m (length buffer)) buffer

-- the document's number of an answer's outcome; 0 for a refusal (its number of survivors is `survivors_in` of decisions)
abbrev pub outcome_in : Result Decision Refusal → ℕ
outcome_in (Err r) = 0
outcome_in (Ok d) = outcome_number d.outcome

-- ---- "Words of demand 3"

-- "A book is accepted when all checks under "Every call on a book" say yes. The buffers suffice when 11 and 12 say yes.": with m mark bytes and p
-- placement bytes no question of deciding says no
abbrev pub Decidable : (b : List ℕ) (m p : ℕ) → Type 0
Decidable b m p = first_no (decide_questions b m p) ≡ none

-- "Unsatisfiable is outcome 2 or 3, yes is outcome 1."
abbrev pub CalledUnsatisfiable : Result Decision Refusal → Type 0
CalledUnsatisfiable d = (outcome_in d ≡ 2) ⊎ (outcome_in d ≡ 3)

-- "The listed types are those of the candidates marked 1, by ascending candidate number."
abbrev pub listed_by : (b marks : List ℕ) → List ℕ
listed_by b marks = marked marks (candidates (book_of b).grading)

-- the placement that a buffer holds for n individuals: "two bytes per individual"
abbrev pub placement_in : (buffer : List ℕ) (n : ℕ) → List ℕ
placement_in buffer n = table (λ j. word_at buffer (2 * j)) n

-- "Their interpretation has one element for each ..; individuals sit as placed": of the types and the placement that the two buffers say
abbrev pub interpretation_in : (b marks buffer : List ℕ) → Interpretation
interpretation_in b marks buffer = placed_among (book_of b) (listed_by b marks) (placement_in buffer (individuals (book_of b)))
