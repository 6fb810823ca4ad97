-- Demand 3, sentence by sentence, of a book's bytes: what deciding it says of the interpretations of every finite size. Sentences in quotation
-- marks are the demand's own or those of document 01, which has its words ("Words of demand 3"). The answer and the buffers are what `decision_of`,
-- `marks_after` and `placement_after` give, and these are the contract of `decider::decide`; how they are worked out needs no belief, since the
-- theorems say what they come to. Each theorem stands under the sentence that it says, and is proved by naming a law.
-- Assumes nothing.
use Rattle.std.specs.Prelude.{◌≡◌, ◌↔◌, ◌⊎◌, List, ℕ, ◌*◌, ◌<◌, length, get_or, drop, Result}
use Rattle.std.proofs.Common.{sym, ◌∙◌}
use Rattle.std.proofs.Math.Option.{some}
use Rattle.chain.specs.Lists.{Mem, Each, Ascending}
use Rattle.semantics.specs.Interpretations.{Grading, Interpretation}
use Rattle.semantics.specs.Books.{Book, Valid, individuals, RuleModel, MeetsClaims, RulesSatisfiable, Satisfiable}
use Rattle.types.specs.Candidates.{candidates, grade_in, HasType, type_of}
use Rattle.book.specs.Reading.{book_of}
use Rattle.elimination.specs.Survivors.{Sound, survivors_of}
use Rattle.elimination.specs.Listed.{types_in, Occurs}
use Rattle.placement.specs.Dictionary.{Foremost}
use Rattle.placement.specs.Outcome.{seat, placement, outcome, placed_among, placed_types}
use Rattle.decider.specs.Deciding.{decision_of, marks_after, placement_after, outcome_in, Decidable, CalledUnsatisfiable, listed_by, placement_in, interpretation_in}
use Rattle.decisions.specs.Decided.{survivors_in}
use Rattle.decisions.specs.declared.Decision.{Decision}
use Rattle.refusals.specs.declared.Refusal.{Refusal}
use Rattle.types.proofs.Candidates as Candidates
use Rattle.elimination.proofs.Survivors as Survivors
use Rattle.elimination.proofs.Complete as Complete
use Rattle.elimination.proofs.Listed as Listed
use Rattle.placement.proofs.Outcome as Outcome
use Rattle.book.proofs.Reading.{accepts_valid}
use Rattle.decider.proofs.Deciding as Deciding
use Rattle.marking.proofs.Marking as Marks
use Rattle.decider.proofs.Listed as Left
use Rattle.demands.specs.Types.{types_differ, listed-are_sound}

-- "For every accepted book with at most 16,384 candidates and sufficient buffers": the marks buffer holds `marks` and the placement buffer
-- `buffer`, whatever these are
module _ (b marks buffer : List ℕ) (d : Decidable b (length marks) (length buffer)) where
  abbrev B : Book
  B = book_of b

  abbrev G : Grading
  G = B.grading

  -- what deciding answers, what it leaves, and the types that its marks list
  abbrev answer : Result Decision Refusal
  answer = decision_of b (length marks) (length buffer)

  abbrev marks' : List ℕ
  marks' = marks_after b (length buffer) marks

  abbrev buffer' : List ℕ
  buffer' = placement_after b (length marks) buffer

  abbrev listed : List ℕ
  listed = listed_by b marks'

  w : Valid B
  w = accepts_valid b (Left.decidable_suffices b (length marks) (length buffer) d).accepted

  outcome-is : outcome_in answer ≡ outcome B
  outcome-is = Left.outcome-is B _ d

  listed-is : listed ≡ survivors_of B
  listed-is = Marks.listed-are B _ marks d

  -- "Outcomes: 1 holds together; 2 the rules have a model but none meets the claims; 3 the rules have none."
  pub outcome_1_holds_together : (outcome_in answer ≡ 1) ↔ Satisfiable B
  outcome_1_holds_together = rw outcome-is (Outcome.outcome_1 B w)

  pub outcome_2_claims_fail : (outcome_in answer ≡ 2) ↔ (RulesSatisfiable B × ¬ Satisfiable B)
  outcome_2_claims_fail = rw outcome-is (Outcome.outcome_2 B w)

  pub outcome_3_no_model : (outcome_in answer ≡ 3) ↔ (¬ RulesSatisfiable B)
  outcome_3_no_model = rw outcome-is (Outcome.outcome_3 B w)

  -- "called unsatisfiable exactly when no non-empty finite interpretation on its chain meets all its rules and claims"
  pub unsatisfiable_exactly : CalledUnsatisfiable answer ↔ (¬ Satisfiable B)
  unsatisfiable_exactly = rw outcome-is (Outcome.unsatisfiable B w)

  -- ---- the types listed

  -- "the types listed, once each and ascending, are exactly those that an element has in some finite interpretation on the chain that meets the
  -- rules": each that is listed occurs,
  pub listed_exactly : (c : ℕ) → Mem c listed ↔ ((c < candidates G) × Occurs B c)
  listed_exactly = rw listed-is (Listed.survives_realised B w)

  -- whatever type occurs is listed,
  pub every_type_is-listed : (I : Interpretation) → RuleModel B I → (e : ℕ) → e < I.size → (c : ℕ) × Mem c listed × HasType G I e c
  every_type_is-listed I m e h = (
    type_of G I e,
    rw listed-is (Complete.complete B w I m e h),
    Candidates.type_of_has G w.well_formed I m.on_chain e h,
  )

  -- the list ascends, and no type stands in it twice
  pub listed_ascending : Ascending 0 listed
  listed_ascending = rw listed-is (Survivors.survivors_ascending G B.rules)

  pub listed-types_differ : (c e : ℕ) → Mem c listed → Mem e listed → ((i : ℕ) → i < length G.terms → grade_in G c i ≡ grade_in G e i) → c ≡ e
  listed-types_differ c e m n =
      types_differ b (Left.decidable_suffices b (length marks) (length buffer) d).accepted c e ((listed_exactly c).0 m).0 ((listed_exactly e).0 n).0

  -- "with the strongest links they are an interpretation in which each element has its listed type and which meets every rule": individuals
  -- "as placed or, without a placement, anywhere"
  pub listed_have_their_types : 0 < length listed → (element : ℕ → ℕ) (e : ℕ) → e < length listed → HasType G (types_in G listed element) e (get_or listed e 0)
  listed_have_their_types _ = Listed.sound_has G B.rules w.well_formed listed (listed-are_sound b marks buffer d)

  pub listed_meet_the_rules : 0 < length listed → (element : ℕ → ℕ) → ((j : ℕ) → element j < length listed) → RuleModel B (types_in G listed element)
  listed_meet_the_rules h element = Listed.sound_meets B w listed (listed-are_sound b marks buffer d) element h

  -- ---- the placement

  -- "and, when the verdict is yes, with the individuals as placed, every claim": as the buffers say
  module _ (yes-said : outcome_in answer ≡ 1) where
    model : (p : List ℕ) × (placement B ≡ some p) × RuleModel B (placed_types B p) × MeetsClaims B (placed_types B p)
        × ((j : ℕ) → j < individuals B → get_or (survivors_of B) ((placed_types B p).element j) 0 ≡ seat p j)
    model = Outcome.outcome_model B w (sym outcome-is ∙ yes-said)

    -- the interpretation that marks and placement give
    abbrev found : Interpretation
    found = interpretation_in b marks' buffer'

    found-is : found ≡ placed_types B model.0
    found-is = Left.interpretation-is B _ d buffer model.0 model.1 marks

    pub found_meets_the_rules : RuleModel B found
    found_meets_the_rules = rw found-is model.2

    pub found_meets_the_claims : MeetsClaims B found
    found_meets_the_claims = rw found-is model.3

    -- "individuals sit as placed": each at the element of its placed type
    pub individuals_sit_as_placed : (j : ℕ) → j < individuals B → get_or listed (found.element j) 0 ≡ seat (placement_in buffer' (individuals B)) j
    individuals_sit_as_placed = rw (listed-is, Left.placement_reads B _ d buffer model.0 model.1) model.4

    -- the placement that the buffer holds is "the first in dictionary order, individual 0 leading: every other placement at survivors that meets
    -- the claims comes later"
    pub placement-is-first : Foremost listed (individuals B) (λ p. MeetsClaims B (placed_among B listed p)) (placement_in buffer' (individuals B))
    placement-is-first =
        rw (listed-is, Left.placement_reads B _ d buffer model.0 model.1)
        (Outcome.placement-first_met B w (Outcome.outcome-placed B (sym outcome-is ∙ yes-said)).0 model.0 model.1)

  -- ---- and beyond: fewer types may do

  -- a sound set is, with the strongest links, an interpretation in which each element has its type, and it lies within what is listed
  -- (`sound_sets_lie_within` of Types)
  pub sound_have_their_types : (xs : List ℕ) → Sound G B.rules (λ c. Mem c xs) → (element : ℕ → ℕ) (e : ℕ) → e < length xs
      → HasType G (types_in G xs element) e (get_or xs e 0)
  sound_have_their_types = Listed.sound_has G B.rules w.well_formed

  -- one that has a member meets every rule, wherever individuals sit
  pub sound_meet_the_rules : (xs : List ℕ) → Sound G B.rules (λ c. Mem c xs) → 0 < length xs → (element : ℕ → ℕ) → ((j : ℕ) → element j < length xs)
      → RuleModel B (types_in G xs element)
  sound_meet_the_rules xs s h element = Listed.sound_meets B w xs s element h

  -- and one that has the placed types among its members also every claim, with the individuals as placed
  pub sound_meet_rules-and_claims : outcome_in answer ≡ 1 → (xs : List ℕ) → Sound G B.rules (λ c. Mem c xs) → 0 < length xs
      → Each (λ c. Mem c xs) (placement_in buffer' (individuals B))
      → RuleModel B (placed_among B xs (placement_in buffer' (individuals B)))
      × MeetsClaims B (placed_among B xs (placement_in buffer' (individuals B)))
  sound_meet_rules-and_claims yes-said xs s h =
      let u = (Outcome.outcome-placed B (sym outcome-is ∙ yes-said)).1 in
      rw (Left.placement_reads B _ d buffer u.0 u.1)
      (λ m. (
        Outcome.placed-rules B w xs s h u.0 (u.2.0.0, m),
        Outcome.placed_claims B w xs s h u.0 (u.2.0.0, m) u.2.1,
      ))

  -- ---- the number and the bytes

  -- "The number of survivors is the number of marks set."
  pub survivors-are-counted : survivors_in answer ≡ length listed
  survivors-are-counted = Left.counted_is B _ d marks

  -- "one mark byte per candidate (1 survivor, 0 not)": 1 if and only if the candidate's type occurs, and else 0
  pub marks_say_what_occurs : (c : ℕ) → c < candidates G → (get_or marks' c 0 ≡ 1) ↔ Occurs B c
  marks_say_what_occurs c h =
      let u = Marks.mark_listed B _ marks d c h in
      (λ e. ((listed_exactly c).0 (u.0 e)).1, λ o. u.1 ((listed_exactly c).1 (h, o)))

  pub marks-are_0_or_1 : (c : ℕ) → c < candidates G → (get_or marks' c 0 ≡ 0) ⊎ (get_or marks' c 0 ≡ 1)
  marks-are_0_or_1 = Marks.mark_bit B _ marks d

  -- "All other bytes keep their contents."
  pub marks-are-kept : drop (candidates G) marks' ≡ drop (candidates G) marks
  marks-are-kept = Marks.marks-kept B _ marks d

  pub placement-is-kept : outcome_in answer ≡ 1 → drop (2 * individuals B) buffer' ≡ drop (2 * individuals B) buffer
  placement-is-kept e = Left.placement-kept B _ d buffer (model e).0 (model e).1

  -- "for outcome 1 only, the placement"
  pub placement_for_outcome_1_only : ¬ (outcome_in answer ≡ 1) → buffer' ≡ buffer
  placement_for_outcome_1_only n = Deciding.kept_without_outcome_1 B _ buffer (λ e. n (outcome-is ∙ e))

  -- ---- and beyond: deciding again, on what it left, gives the same

  pub decided_again : decision_of b (length marks') (length buffer') ≡ answer
  decided_again = Left.decided_again b marks buffer d

  pub marks_again : marks_after b (length buffer') marks' ≡ marks'
  marks_again = Left.marks_again b marks buffer d

  pub placement_again : placement_after b (length marks') buffer' ≡ buffer'
  placement_again = Left.placement_again b marks buffer d

-- on buffers that held anything else it answers the same, and sets the same marks and the same placement
module _ (b marks buffer others other : List ℕ) (d : Decidable b (length marks) (length buffer)) (e : Decidable b (length others) (length other)) where
  pub decided_the_same : decision_of b (length marks) (length buffer) ≡ decision_of b (length others) (length other)
  decided_the_same = Left.decided_same b marks buffer others other d e

  pub listed_the_same : listed_by b (marks_after b (length buffer) marks) ≡ listed_by b (marks_after b (length other) others)
  listed_the_same = Marks.listed-are (book_of b) _ marks d ∙ sym (Marks.listed-are (book_of b) _ others e)

  pub placed_the_same : outcome_in (decision_of b (length marks) (length buffer)) ≡ 1
      → placement_in (placement_after b (length marks) buffer) (individuals (book_of b)) ≡ placement_in (placement_after b (length others) other) (individuals (book_of b))
  placed_the_same h =
      let u = model b marks buffer d h in
      Left.placement_reads (book_of b) _ d buffer u.0 u.1 ∙ sym (Left.placement_reads (book_of b) _ e other u.0 u.1)
