-- Document 02, P2, "One finding for several modules", sentence by sentence, of a book's bytes. A claim is met when each individual that it names meets it
-- (semantics/specs/Books), so Demand2 says of an answer on a sheet, and Demand3 of the models, what they said of claims before; a broken set is named by
-- its own number, since `Says` counts claims.
-- Assumes nothing.
use Rattle.std.specs.Prelude.{◌≡◌, ◌↔◌, ◌⊎◌, List, ℕ, ◌+◌, ◌*◌, ◌≤◌, ◌<◌, length, get_or, Ok}
use Rattle.std.proofs.Common.{⊎_elim, arith}
use Rattle.chain.specs.Lists.{Each}
use Rattle.encoding.specs.Bits.{Bit}
use Rattle.semantics.specs.Interpretations.{Grading, Interpretation, grade_at}
use Rattle.semantics.specs.Books.{Book, MembershipClaim, Mentions, membership_individuals, individuals, MeetsMembership}
use Rattle.claims.specs.Claims.{MembershipRight}
use Rattle.claims.specs.Sets.{written_out}
use Rattle.claims.specs.declared.MembershipRecord.{MembershipRecord}
use Rattle.heads.specs.Heads.{steps, offset_at, count_at, LengthRight, EditionRight, CountsRight}
use Rattle.layout.specs.Layout.{sections_of, LaidOut, term_bytes, rule_bytes, membership_bytes, link_bytes, pair_bytes}
use Rattle.book.specs.Reading.{book_of}
use Rattle.book.specs.Opening.{Accepts}
use Rattle.working.specs.Working.{nth_membership}
use Rattle.working.specs.declared.Verdict.TheVariants.{Meets}
use Rattle.checker.specs.Working.{worked_of, grid_after}
use Rattle.decider.specs.Deciding.{decision_of, marks_after, placement_after}
use Rattle.semantics.proofs.Claims as Abstract
use Rattle.book_bytes.proofs.Claims as Read
use Rattle.book_bytes.proofs.Sets as Written
use Rattle.checker.proofs.Alike as Worked
use Rattle.decider.proofs.Alike as Alike

-- ---- the format

module _ (N n : ℕ) (q : MembershipRecord) where
  -- "Check 8 admits both senses.": of four bytes, N steps and n terms. Every first byte is a set, and an empty one is checked like any other
  pub check_8_of_sets : (q.sense ≡ 2) ⊎ (q.sense ≡ 3) → MembershipRight N n q ↔ ((q.term < n) × (q.grade ≤ N))
  check_8_of_sets k =
      let set : 2 ≤ q.sense = ⊎_elim (λ e. omega arith) (λ e. omega arith) k in
      let known : q.sense < 4 = ⊎_elim (λ e. omega arith) (λ e. omega arith) k in
      (λ h. (h.1.0, h.1.1.1), λ h. ((λ l. absurd (omega arith)), (h.0, (known, h.1))))

  pub check_8_of_one : q.sense < 2 → MembershipRight N n q ↔ ((q.named < 8) × (q.term < n) × (q.grade ≤ N))
  check_8_of_one l = (λ h. (h.0 l, h.1.0, h.1.1.1), λ h. ((λ _. h.0), (h.1, (omega arith, h.2))))

  pub check_8_no_other : 4 ≤ q.sense → ¬ MembershipRight N n q
  check_8_no_other l h = omega (arith, h.1.1.0)

module _ (b : List ℕ) (ok : Accepts b) where
  abbrev B : Book
  B = book_of b

  abbrev G : Grading
  G = B.grading

  -- an accepted book has as many membership claims as its third entry counts,
  pub claims_are-counted : length B.memberships ≡ count_at b 2
  claims_are-counted = Read.claims_counted b ok

  -- and claim i has four bytes, from where that entry says
  module _ (i : ℕ) (h : i < count_at b 2) where
    abbrev claim : MembershipClaim
    claim = nth_membership B.memberships i

    abbrev first : ℕ
    first = get_or b (offset_at b 2 + 4 * i) 0

    abbrev term : ℕ
    term = get_or b (offset_at b 2 + (4 * i + 1)) 0

    abbrev sense : ℕ
    sense = get_or b (offset_at b 2 + (4 * i + 2)) 0

    abbrev grade : ℕ
    grade = get_or b (offset_at b 2 + (4 * i + 3)) 0

    -- "sense 0 "at least" or 1 "at most"", for one individual, "individual 0–7"
    pub sense_0_for_one : sense ≡ 0 → (I : Interpretation) → MeetsMembership G I claim ↔ (grade ≤ grade_at G I term (I.element first))
    sense_0_for_one e I = Read.met_by_one b ok i h _ 0 e I (omega arith)

    pub sense_1_for_one : sense ≡ 1 → (I : Interpretation) → MeetsMembership G I claim ↔ (grade_at G I term (I.element first) ≤ grade)
    sense_1_for_one e I = Read.met_by_one b ok i h _ 1 e I (omega arith)

    -- "Senses 2 and 3 mean "at least" and "at most" for a set: the first byte has bit i set for individual i, and the claim holds when each member meets
    -- it."
    pub sense_2_for_a_set : sense ≡ 2 → (I : Interpretation)
        → MeetsMembership G I claim ↔ ((j : ℕ) → j < 8 → Bit first j → grade ≤ grade_at G I term (I.element j))
    sense_2_for_a_set e I = Read.met_by_each b ok i h _ 2 e I (omega arith)

    pub sense_3_for_a_set : sense ≡ 3 → (I : Interpretation)
        → MeetsMembership G I claim ↔ ((j : ℕ) → j < 8 → Bit first j → grade_at G I term (I.element j) ≤ grade)
    sense_3_for_a_set e I = Read.met_by_each b ok i h _ 3 e I (omega arith)

    -- "An empty set claims nothing and raises no individual count."
    pub empty_set_claims_nothing : 2 ≤ sense → first ≡ 0 → (I : Interpretation) → MeetsMembership G I claim
    empty_set_claims_nothing = λ l e. Read.empty_met b ok i h _ l e

    pub empty_set_raises_no_count : 2 ≤ sense → first ≡ 0 → membership_individuals claim ≡ 0
    empty_set_raises_no_count = λ l e. Read.empty_uncounted b ok i h _ l e

    -- whom it mentions: the one, or the members
    pub one_is_mentioned : sense < 2 → (j : ℕ) → Mentions claim j ↔ (j ≡ first)
    one_is_mentioned = Read.one_mentioned b ok i h _

    pub members-are_mentioned : 2 ≤ sense → (j : ℕ) → Mentions claim j ↔ ((j < 8) × Bit first j)
    members-are_mentioned = Read.members_mentioned b ok i h _

  -- "The book's individuals are 0 up to the highest one claimed; without claims there are none.": their number is the least n such that every claim
  -- mentions individuals below n
  pub individuals-are_those_mentioned : (n : ℕ)
      → (individuals B ≤ n) ↔ (Each (λ q. (j : ℕ) → Mentions q j → j < n) B.memberships × Each (λ q. (q.source < n) × (q.target < n)) B.links)
  individuals-are_those_mentioned = Abstract.individuals_least B

-- ---- the match: "An accepted book, with its sets written out as single claims, must get the same outcome, marks and placement, where it then fits in 64
-- claims."

-- c is b with its sets written out: the membership claims are b's written out, N and the bytes of every other section are b's
pub record WrittenOut (b c : List ℕ) : Type 0 where
  pub steps_same : steps c ≡ steps b
  pub terms_same : term_bytes c (sections_of c) ≡ term_bytes b (sections_of b)
  pub rules_same : rule_bytes c (sections_of c) ≡ rule_bytes b (sections_of b)
  pub claims_written : membership_bytes c (sections_of c) ≡ written_out (membership_bytes b (sections_of b))
  pub links_same : link_bytes c (sections_of c) ≡ link_bytes b (sections_of b)
  pub pairs_same : pair_bytes c (sections_of c) ≡ pair_bytes b (sections_of b)

module _ (b c : List ℕ) (ok : Accepts b) (w : WrittenOut b c) where
  -- "where it then fits in 64 claims": where checks 1, 2, 4 and 5, which ask for its length, edition, counts and layout, say yes, all others do
  pub written_out_is-accepted : LengthRight c → EditionRight c → CountsRight c → LaidOut c (sections_of c) → Accepts c
  written_out_is-accepted =
      Written.written-accepted b c ok w.claims_written w.steps_same w.terms_same w.rules_same w.links_same w.pairs_same

  module _ (also : Accepts c) where
    one_meaning : book_of c ≡ Abstract.written (book_of b)
    one_meaning = Written.written_reads b c ok w.claims_written w.steps_same w.terms_same w.rules_same w.links_same w.pairs_same

    -- no set is left
    pub written_out_are-single : (i : ℕ) → i < count_at c 2 → get_or c (offset_at c 2 + (4 * i + 2)) 0 < 2
    written_out_are-single = Written.written_senses b c ok w.claims_written also

    -- "the same outcome", and the same survivor count; "marks and placement", byte for byte: whatever the buffers hold, refused calls too
    pub written_out_decided_alike : (m p : ℕ) → decision_of b m p ≡ decision_of c m p
    written_out_decided_alike = Alike.decided_alike b c ok also (Alike.same-written (book_of b) (book_of c) one_meaning)

    pub written_out_marked_alike : (p : ℕ) (marks : List ℕ) → marks_after b p marks ≡ marks_after c p marks
    written_out_marked_alike = Alike.marks_alike b c ok also (Alike.same-written (book_of b) (book_of c) one_meaning)

    pub written_out_placed_alike : (m : ℕ) (buffer : List ℕ) → placement_after b m buffer ≡ placement_after c m buffer
    written_out_placed_alike = Alike.placement_alike b c ok also (Alike.same-written (book_of b) (book_of c) one_meaning)

    -- and beyond: a sheet "meets" the one exactly when it meets the other, and the grid is the same
    pub written_out_meets_alike : (t : List ℕ) (g : ℕ) → (worked_of b t g ≡ Ok Meets) ↔ (worked_of c t g ≡ Ok Meets)
    written_out_meets_alike t = Worked.meets_alike b c ok also (Worked.counts_written b c one_meaning) t (Worked.verdict_written b c one_meaning)

    pub written_out_grid_alike : (t grid : List ℕ) → grid_after b t grid ≡ grid_after c t grid
    written_out_grid_alike = Worked.grid_alike b c ok also (Worked.counts_written b c one_meaning)
