-- What deciding says and leaves, of a book that is decided: the laws that the demands name.
-- Assumes nothing.
use mathlib.Core.Path.{◌≡◌, refl, sym, ap, ◌∙◌}
use mathlib.Core.Option.{Option, none, some}
use mathlib.Core.List.{List, [], ◌∷◌, ◌++◌, flat_map}
use Prim.Native.Nat.{ℕ, zero, suc, ◌+◌, ◌*◌, ◌≤◌, ◌<◌}
use native.Mathlib.Omega.{arith}
use lib.ListN.{length, get_or, drop, length-append, length-drop}
use lib.Seq.{drop_at, ext_get_or}
use Rattle.chain.specs.Lists.{index}
use Rattle.chain.proofs.Lists.{length-table, get_or-table}
use Rattle.std.specs.Prelude.{Ok}
use Rattle.refusals.specs.Questions.{Question, first_no}
use Rattle.refusals.proofs.Questions.{first-none-append, first_yes, first-none, first-both, first_empty}
use Rattle.refusals.specs.declared.Refusal.TheVariants as refusal
use Rattle.semantics.specs.Books.{Book, individuals}
use Rattle.types.specs.Candidates.{candidates}
use Rattle.encoding.specs.Words.{word_at, word_bytes}
use Rattle.layout.specs.Layout.{sections_of}
use Rattle.book.specs.Reading.{book_of}
use Rattle.book.specs.Opening.{Accepts, book_questions}
use Rattle.counter.specs.Counting.{few_candidates?}
use Rattle.book.proofs.Opening.{accepts_right}
use Rattle.book.proofs.Reading.{right-individuals}
use Rattle.elimination.specs.Listed.{types_in}
use Rattle.elimination.specs.Marks.{marks_of, marked}
use Rattle.elimination.specs.Survivors.{survivors_of}
use Rattle.placement.specs.Outcome.{seat, placement, outcome, HoldsAt, placed_among, placed_types}
use Rattle.placement.specs.Dictionary.{Finds}
use Rattle.placement.proofs.Outcome.{placement_finds, placement-first}
use Rattle.marking.specs.Marking.{marks_by}
use Rattle.marking.proofs.Marking.{marks-are, listed-are, marks-kept, marks-length}
use Rattle.decisions.specs.Decided.{decision, placed_in, survivors_in}
use Rattle.decider.specs.Deciding.{decision_by, placement_by, decision_of, marks_after, placement_after, Decidable, outcome_in, placement_in}
use Rattle.decisions.proofs.Decided.{numbered-outcome, length_words}
use Rattle.decider.proofs.Deciding.{decide_none, decide_both, settled}

-- ---- two bytes make a number

pub word_at_lem : (ps zs : List ℕ) (j : ℕ) → j < length ps → word_at (flat_map word_bytes ps ++ zs) (2 * j) ≡ get_or ps j 0
unfolding word_at flat_map
word_at_lem [] zs j h = absurd (omega arith)
word_at_lem (x ∷ ps) zs zero h = omega arith
word_at_lem (x ∷ ps) zs (suc j) h =
    let e : 2 * suc j ≡ suc (suc (2 * j)) = omega arith in
    let f : suc (suc (2 * j)) + 1 ≡ suc (suc (2 * j + 1)) = omega arith in
    rw (e, f) (word_at_lem ps zs j (omega arith))

-- ---- no question says no

pub record Suffices (b : List ℕ) (m p : ℕ) : Type 0 where
  pub accepted : Accepts b
  pub few : candidates (book_of b).grading ≤ 16384
  pub marks_suffice : candidates (book_of b).grading ≤ m
  pub placement_suffices : 16 ≤ p

pub decidable_suffices : (b : List ℕ) (m p : ℕ) → Decidable b m p → Suffices b m p
unfolding Accepts
decidable_suffices b m p d =
    let u = decide_both b m p d in
    let v = first-both (book_questions b) _ u.0 in
    record {
      accepted = v.0;
      few = (first-none refusal.Candidates (few_candidates? (book_of b)) [] v.1).0;
      marks_suffice = u.1;
      placement_suffices = u.2;
    }

pub suffices_decidable : (b : List ℕ) (m p : ℕ) → Suffices b m p → Decidable b m p
unfolding Accepts
suffices_decidable b m p d =
    decide_none b m p
    (first-none-append (book_questions b) _ d.accepted ∙ first_yes refusal.Candidates (few_candidates? (book_of b)) [] d.few ∙ first_empty)
    d.marks_suffice d.placement_suffices

-- ---- of a book that was read, after questions that all say yes

module _ (B : Book) (qs : List Question) (ok : first_no qs ≡ none) where
  -- ---- the answer

  pub decided_is : decision_by B qs ≡ Ok (decision B)
  decided_is = sym (settled B qs [] [] ok).0

  pub outcome-is : outcome_in (decision_by B qs) ≡ outcome B
  outcome-is = ap outcome_in decided_is ∙ numbered-outcome B

  pub survivors-is : survivors_in (decision_by B qs) ≡ length (survivors_of B)
  survivors-is = ap survivors_in decided_is

  -- "The number of survivors is the number of marks set."
  pub counted_is : (marks : List ℕ) → survivors_in (decision_by B qs) ≡ length (marked (marks_by B qs marks) (candidates B.grading))
  counted_is marks = survivors-is ∙ sym (ap length (listed-are B qs marks ok))

  -- ---- the placement

  module _ (buffer : List ℕ) where
    pub placement-is : placement_by B qs buffer ≡ placed_in (placement B) buffer
    placement-is = sym (settled B qs [] buffer ok).1.1

    module _ (ps : List ℕ) (found : placement B ≡ some ps) where
      pub placed-length : length ps ≡ individuals B
      placed-length = (placement-first B ps found).drawn.0

      placed-is : placement_by B qs buffer ≡ flat_map word_bytes ps ++ drop (2 * length ps) buffer
      placed-is = placement-is ∙ ap (λ (o : Option (List ℕ)). placed_in o buffer) found

      -- the buffer holds it
      pub placement_reads : placement_in (placement_by B qs buffer) (individuals B) ≡ ps
      placement_reads =
          ext_get_or 0 _ ps (length-table (λ j. word_at (placement_by B qs buffer) (2 * j)) (individuals B) ∙ sym placed-length) (λ j l.
          let h : j < individuals B = rw (← length-table (λ j. word_at (placement_by B qs buffer) (2 * j)) (individuals B)) l in
          get_or-table (λ j. word_at (placement_by B qs buffer) (2 * j)) (individuals B) j 0 h
          ∙ ap (λ (l : List ℕ). word_at l (2 * j)) placed-is ∙ word_at_lem ps (drop (2 * length ps) buffer) j (omega (arith, placed-length)))

      -- and keeps what stands past it
      pub placement-kept : drop (2 * individuals B) (placement_by B qs buffer) ≡ drop (2 * individuals B) buffer
      placement-kept =
          let e = ap (λ (n : ℕ). 2 * n) placed-length in
          ap (drop (2 * individuals B)) placed-is ∙ drop_at (flat_map word_bytes ps) _ (2 * individuals B) (length_words ps ∙ e)
          ∙ ap (λ (n : ℕ). drop n buffer) e

      -- the interpretation that the buffers say is that of the placed types
      pub interpretation-is : (marks : List ℕ)
          → placed_among B (marked (marks_by B qs marks) (candidates B.grading)) (placement_in (placement_by B qs buffer) (individuals B)) ≡ placed_types B ps
      interpretation-is marks =
          ap (λ (xs : List ℕ). types_in B.grading xs (λ j. index xs (seat (placement_in (placement_by B qs buffer) (individuals B)) j))) (listed-are B qs marks ok)
          ∙ ap (λ (q : List ℕ). types_in B.grading (survivors_of B) (λ j. index (survivors_of B) (seat q j))) placement_reads

    pub placement-length : individuals B ≤ 8 → 16 ≤ length buffer → length (placement_by B qs buffer) ≡ length buffer
    placement-length few room = ap length placement-is ∙ go (placement B) (placement_finds B)
      where
        go : (o : Option (List ℕ)) → Finds (survivors_of B) (individuals B) (HoldsAt B) o → length (placed_in o buffer) ≡ length buffer
        go none f = refl
        go (some q) f = length-append (flat_map word_bytes q) _ ∙ omega (arith, length_words q, length-drop (2 * length q) buffer, f.drawn.0)

-- ---- whatever the buffers held, and however often

pub decided_same : (b marks buffer others other : List ℕ) → Decidable b (length marks) (length buffer) → Decidable b (length others) (length other)
    → decision_of b (length marks) (length buffer) ≡ decision_of b (length others) (length other)
decided_same b marks buffer others other d e = decided_is (book_of b) _ d ∙ sym (decided_is (book_of b) _ e)

module _ (b marks buffer : List ℕ) (d : Decidable b (length marks) (length buffer)) where
  abbrev B : Book
  B = book_of b

  abbrev after : List ℕ
  after = marks_after b (length buffer) marks

  abbrev left : List ℕ
  left = placement_after b (length marks) buffer

  again : Decidable b (length after) (length left)
  again =
      let u = decidable_suffices b (length marks) (length buffer) d in
      let few = right-individuals b (sections_of b) (accepts_right b u.accepted) in
      suffices_decidable b _ _ (record {
        accepted = u.accepted;
        few = u.few;
        marks_suffice = omega (arith, marks-length B _ marks d u.marks_suffice, u.marks_suffice);
        placement_suffices = omega (arith, placement-length B _ d buffer few u.placement_suffices, u.placement_suffices);
      })

  pub decided_again : decision_of b (length after) (length left) ≡ decision_of b (length marks) (length buffer)
  decided_again = decided_same b after left marks buffer again d

  pub marks_again : marks_after b (length left) after ≡ after
  marks_again =
      marks-are B _ after again
      ∙ ap (λ (l : List ℕ). marks_of (survivors_of B) (candidates B.grading) ++ l) (marks-kept B _ marks d)
      ∙ sym (marks-are B _ marks d)

  pub placement_again : placement_after b (length after) left ≡ left
  placement_again = placement-is B _ again left ∙ go (placement B) (placement-is B _ d buffer)
    where
      go : (o : Option (List ℕ)) → left ≡ placed_in o buffer → placed_in o left ≡ left
      go none e = refl
      go (some q) e =
          ap (λ (l : List ℕ). flat_map word_bytes q ++ drop (2 * length q) l) e
          ∙ ap (λ (l : List ℕ). flat_map word_bytes q ++ l) (drop_at (flat_map word_bytes q) (drop (2 * length q) buffer) (2 * length q) (length_words q))
          ∙ sym e
