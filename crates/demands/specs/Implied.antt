-- Document 02, P4, "Table of implied rules", sentence by sentence, of a book's bytes. The answer and the buffers are what `implied_of`,
-- `table_marks_after` and `table_after` give, and these are the contract of `implied::implied_rules`; how they are worked out needs no belief, since the
-- theorems say what they come to.
-- Assumes nothing.
use Rattle.std.specs.Prelude.{◌≡◌, refl, ◌↔◌, ◌⊎◌, List, [], ◌∷◌, map, ℕ, ◌+◌, ◌*◌, ◌≤◌, ◌<◌, length, get_or, drop, Result, Ok, Err}
use Rattle.std.proofs.Common.{sym, ap, ◌∙◌}
use mathlib.Core.Logic.Iff
use Rattle.std.proofs.Math.Option.{none, some}
use Rattle.chain.specs.Lists.{Mem}
use Rattle.refusals.specs.Refusals.{number_of}
use Rattle.refusals.specs.Questions.{Question, first_no}
use Rattle.refusals.specs.Answers.{refusal_in}
use Rattle.refusals.specs.declared.Refusal.{Refusal}
use Rattle.refusals.specs.declared.Refusal.TheVariants as refusal
use Rattle.chain.proofs.Lists.{each_mem}
use Rattle.refusals.proofs.Questions.{first-both}
use Rattle.semantics.specs.Interpretations.{Grading, Interpretation, grade_at}
use Rattle.semantics.specs.Books.{Book, Rule, Valid, RuleModel}
use Rattle.types.specs.Candidates.{candidates, grade_in}
use Rattle.heads.specs.Heads.{steps, count_at}
use Rattle.layout.specs.Layout.{sections_of, term_bytes, rule_bytes, pair_bytes}
use Rattle.book.specs.Reading.{book_of}
use Rattle.book.specs.Opening.{Accepts}
use Rattle.counter.specs.Counting.{candidate_questions}
use Rattle.elimination.specs.Survivors.{survivors_of}
use Rattle.elimination.specs.Marks.{Marked}
use Rattle.asking.specs.Asking.{grade_answer}
use Rattle.decider.specs.Deciding.{decision_of, marks_after, Decidable, listed_by}
use Rattle.decisions.specs.Decided.{survivors_in as decidedSurvivors}
use Rattle.subsumption.specs.Subsumption.{Subsumed, implied_byte}
use Rattle.implied.specs.Implying.{implied_questions, implied_of, table_marks_after, table_after, survivors_in}
use Rattle.book.proofs.Reading.{accepts_valid}
use Rattle.book.proofs.Opening.{accepts_right}
use Rattle.elimination.proofs.Survivors as Survivors
use Rattle.asking.proofs.Asking as Asking
use Rattle.marking.proofs.Marking as Marks
use Rattle.decider.proofs.Listed as Left
use Rattle.subsumption.proofs.Subsumption as Subsumption
use Rattle.implied.proofs.Implying as Implying
use Rattle.implied.proofs.Alike as Alike
use Rattle.demands.specs.Types.{grade_answers}

-- ---- the checks

module _ (b : List ℕ) (m t : ℕ) where
  -- "23 when the table buffer is shorter than the square of the term count, after 11.": with m mark bytes and t table bytes
  pub implying_asks : map (λ (q : Question). number_of q.refusal) (implied_questions b m t) ≡ 1 ∷ 2 ∷ 3 ∷ 4 ∷ 5 ∷ 6 ∷ 7 ∷ 8 ∷ 9 ∷ 22 ∷ 10 ∷ 11 ∷ 23 ∷ []
  implying_asks = refl

  pub implying_refuses : refusal_in (implied_of b m t) ≡ first_no (implied_questions b m t)
  implying_refuses = Implying.implied_refusal _ _

-- "the term count": an accepted book has as many terms as its first entry counts
pub terms-are-counted : (b : List ℕ) → Accepts b → length (book_of b).grading.terms ≡ count_at b 0
terms-are-counted b ok = Implying.terms-counted b (accepts_right b ok)

-- where 1 to 9, 22, 10 and 11 say yes, 23 says no if and only if the table is that short
module _ (b : List ℕ) (m t : ℕ) (counted : first_no (candidate_questions b) ≡ none) (room : candidates (book_of b).grading ≤ m) where
  abbrev T : ℕ
  T = length (book_of b).grading.terms

  pub check_23 : (first_no (implied_questions b m t) ≡ some refusal.Table) ↔ (t < T * T)
  check_23 = Implying.says_23 b m t counted room

-- a refusal changes neither buffer
module _ (b marks table : List ℕ) (r : Refusal) (no : implied_of b (length marks) (length table) ≡ Err r) where
  pub refused-marks_stay : table_marks_after b (length table) marks ≡ marks
  refused-marks_stay = sym (Implying.refused _ _ marks table r (Implying.implied_refused _ _ r no)).1.0

  pub refused-table_stays : table_after b (length marks) table ≡ table
  refused-table_stays = sym (Implying.refused _ _ marks table r (Implying.implied_refused _ _ r no)).1.1

-- ---- where every check says yes: the buffers hold `marks` and `table`, whatever these are

module _ (b marks table : List ℕ) (ok : first_no (implied_questions b (length marks) (length table)) ≡ none) where
  abbrev B : Book
  B = book_of b

  abbrev G : Grading
  G = B.grading

  abbrev answer : Result ℕ Refusal
  answer = implied_of b (length marks) (length table)

  abbrev marks' : List ℕ
  marks' = table_marks_after b (length table) marks

  abbrev table' : List ℕ
  table' = table_after b (length marks) table

  -- the number of terms
  abbrev width : ℕ
  width = length G.terms

  -- "one byte per ordered pair of terms, row by row": of the left term i, whose row it is, and the right term j
  abbrev pub byte : (i j : ℕ) → ℕ
  byte i j = get_or table' (width * i + j) 0

  -- "left is never greater than right in any finite interpretation that meets the rules" (and, since P1, every pair)
  abbrev NeverGreater : (i j : ℕ) → Type 0
  NeverGreater i j = (I : Interpretation) → RuleModel B I → (e : ℕ) → e < I.size → grade_at G I i e ≤ grade_at G I j e

  suffices : Accepts b × (candidates G ≤ 16384) × (candidates G ≤ length marks) × (width * width ≤ length table)
  suffices = Implying.implied_suffices b (length marks) (length table) ok

  valid : Valid B
  valid = accepts_valid b suffices.0

  byte-is : (i j : ℕ) → i < width → j < width → byte i j ≡ implied_byte G (survivors_of B) i j
  byte-is = Implying.table_at B _ ok table

  byte-says : (i j : ℕ) → i < width → j < width → (byte i j ≡ 1) ↔ Subsumed G (survivors_of B) i j
  byte-says i j h l = rw (byte-is i j h l) (Subsumption.byte-says G (survivors_of B) i j)

  -- "1 if left is never greater than right in any finite interpretation that meets the rules, else 0"
  pub byte-is_1_if_never_greater : (i j : ℕ) → i < width → j < width → (byte i j ≡ 1) ↔ NeverGreater i j
  byte-is_1_if_never_greater i j h l = Iff.trans (byte-says i j h l) (Subsumption.implied_by_survivors B valid i j h l)

  pub else_byte-is_0 : (i j : ℕ) → i < width → j < width → (byte i j ≡ 0) ↔ (¬ NeverGreater i j)
  else_byte-is_0 i j h l =
      let u = Subsumption.byte_else G (survivors_of B) i j in
      let v = Subsumption.implied_by_survivors B valid i j h l in
      rw (byte-is i j h l) (λ e n. u.0 e (v.1 n), λ n. u.1 (λ s. n (v.0 s)))

  pub byte-is_0_or_1 : (i j : ℕ) → i < width → j < width → (byte i j ≡ 0) ⊎ (byte i j ≡ 1)
  byte-is_0_or_1 i j h l = rw (byte-is i j h l) (Subsumption.byte-bit G (survivors_of B) i j)

  -- "sets the marks, returns the survivor count": as deciding does, and whatever its placement buffer holds
  pub marks-are_those_of_deciding : (buffer : List ℕ) → Decidable b (length marks) (length buffer) → marks' ≡ marks_after b (length buffer) marks
  marks-are_those_of_deciding buffer d = Marks.marks-are B _ marks ok ∙ sym (Marks.marks-are B _ marks d)

  pub count_is_that_of_deciding : (m p : ℕ) → Decidable b m p → survivors_in answer ≡ decidedSurvivors (decision_of b m p)
  count_is_that_of_deciding m p d = Implying.survivors-is B _ ok ∙ sym (Left.survivors-is B _ d)

  -- so the count is that of the marks set
  pub survivors-are-counted : survivors_in answer ≡ length (listed_by b marks')
  survivors-are-counted = Implying.survivors-is B _ ok ∙ sym (ap length (Marks.listed-are B _ marks ok))

  -- "With no survivors all are 1."
  pub no_survivors-all_1 : survivors_in answer ≡ 0 → (i j : ℕ) → i < width → j < width → byte i j ≡ 1
  no_survivors-all_1 none_left i j h l = (byte-says i j h l).1 (Subsumption.none-subsumed G (survivors_of B) (sym (Implying.survivors-is B _ ok) ∙ none_left) i j)

  -- bytes past marks and table are kept
  pub marks-are-kept : drop (candidates G) marks' ≡ drop (candidates G) marks
  marks-are-kept = Marks.marks-kept B _ marks ok

  pub marks-are_as_many : length marks' ≡ length marks
  marks-are_as_many = Marks.marks-length B _ marks ok suffices.2

  pub table-is-kept : drop (width * width) table' ≡ drop (width * width) table
  table-is-kept = Implying.table_kept B _ ok table

  pub table-is_as_long : length table' ≡ length table
  table-is_as_long = Implying.table-length B _ ok table suffices.3

  -- ---- and beyond

  -- each term bounds itself, and what bounds a bound bounds
  pub table-is_reflexive : (i : ℕ) → i < width → byte i i ≡ 1
  table-is_reflexive i h = (byte-says i i h h).1 (Subsumption.subsumed_refl G (survivors_of B) i)

  pub table-is_transitive : (i j k : ℕ) → i < width → j < width → k < width → byte i j ≡ 1 → byte j k ≡ 1 → byte i k ≡ 1
  table-is_transitive i j k h l g e f =
      (byte-says i k h g).1 (Subsumption.subsumed_trans G (survivors_of B) i j k ((byte-says i j h l).0 e) ((byte-says j k l g).0 f))

  -- a rule of the book has its byte
  pub rules_have_their_byte : (q : Rule) → Mem q B.rules → byte q.left q.right ≡ 1
  rules_have_their_byte q m =
      let r = each_mem _ B.rules valid.rules_in q m in
      (byte-says q.left q.right r.0 r.1).1 (Subsumption.rule_subsumed B q m)

  -- where the byte is 0 a listed type shows it: `checker::grade` says of a marked candidate that it grades left above right
  pub a_listed_type_shows_it : (i j : ℕ) → i < width → j < width → byte i j ≡ 0
      → (c : ℕ) × (c < candidates G) × Marked marks' c
      × (x : ℕ) × (y : ℕ) × (grade_answer b c i ≡ Ok x) × (grade_answer b c j ≡ Ok y) × (y < x)
  a_listed_type_shows_it i j h l e =
      let none-says = (Subsumption.byte_else G (survivors_of B) i j).0 (sym (byte-is i j h l) ∙ e) in
      let w = Subsumption.subsumed_shown G (survivors_of B) i j none-says in
      let c = w.0 in
      let counted = first-both (candidate_questions b) _ ok in
      let below = (Survivors.survivors_sound G B.rules).candidate c w.1 in
      let asked : (k : ℕ) → k < width → grade_answer b c k ≡ Ok (grade_in G c k) =
      λ k g. grade_answers b c k (Asking.grade-none b counted.0 c k below g) in
      (c, below, Marks.survivor_marked B _ marks ok c w.1, grade_in G c i, grade_in G c j, asked i h, asked j l, w.2)

-- ---- "Claims play no part."

-- books that differ in their claims alone: N and the bytes of every other section are the same
pub record SameButClaims (b c : List ℕ) : Type 0 where
  pub steps_same : steps b ≡ steps c
  pub terms_same : term_bytes b (sections_of b) ≡ term_bytes c (sections_of c)
  pub rules_same : rule_bytes b (sections_of b) ≡ rule_bytes c (sections_of c)
  pub pairs_same : pair_bytes b (sections_of b) ≡ pair_bytes c (sections_of c)

-- two such books, both accepted, get the same answer and the same bytes
module _ (b c : List ℕ) (ok : Accepts b) (also : Accepts c) (same : SameButClaims b c) where
  same-rules : Alike.SameRules (book_of b) (book_of c)
  unfolding book_of sections_of
  same-rules = record {
    grading_same = rw (same.steps_same, same.terms_same, same.pairs_same) refl;
    rules_same = rw same.rules_same refl;
  }

  pub claims_play_no_part : (m t : ℕ) → implied_of b m t ≡ implied_of c m t
  claims_play_no_part = Alike.implied_alike b c ok also same-rules

  pub claims_set_no_mark : (t : ℕ) (marks : List ℕ) → table_marks_after b t marks ≡ table_marks_after c t marks
  claims_set_no_mark = Alike.marks_alike b c ok also same-rules

  pub claims_set_no_byte : (m : ℕ) (table : List ℕ) → table_after b m table ≡ table_after c m table
  claims_set_no_byte = Alike.table_alike b c ok also same-rules
