-- Document 02, P1, "Roles under roles", sentence by sentence, of a book's bytes. Where P1 changes a sentence of document 01, the theorem stands beside
-- that sentence: the questions in Demand1, the link in Types, the answer on a sheet in Demand2, the models in Demand3.
-- Assumes nothing.
use Rattle.std.specs.Prelude.{◌≡◌, ◌↔◌, List, [], ℕ, ◌+◌, ◌*◌, ◌≤◌, ◌<◌, length, get_or, Ok}
use Rattle.std.proofs.Math.Path.{refl, ap}
use Rattle.std.proofs.Common.{subst, ◌∙◌, le_antisymm, arith}
use Rattle.std.proofs.Math.Option.{none}
use Rattle.chain.specs.Lists.{Mem, Each, table}
use Rattle.refusals.specs.Questions.{first_no}
use Rattle.chain.proofs.Lists.{each_mem, each-highest}
use Rattle.semantics.specs.Roles.{RolePair, Upward, Steps}
use Rattle.semantics.specs.Interpretations.{Grading, Interpretation}
use Rattle.semantics.specs.Books.{Book, Valid, pair_roles, role_count, MeetsPair, RuleModel}
use Rattle.semantics.proofs.Roles as Reaching
use Rattle.semantics.proofs.Governs.{governs-upward, valid_transitive}
use Rattle.types.specs.Links.{link, own_bound, LeastOf}
use Rattle.types.proofs.Links.{link_rises}
use Rattle.sections.specs.Terms.{terms_of}
use Rattle.claims.specs.Rules.{rules_of}
use Rattle.claims.specs.Pairs.{pairs_of}
use Rattle.claims.specs.Claims.{memberships_of, links_of}
use Rattle.heads.specs.Heads.{edition, steps, offset_at, count_at, LengthRight}
use Rattle.layout.specs.Layout.{sections_of, term_bytes, rule_bytes, membership_bytes, link_bytes}
use Rattle.heads.proofs.Editions.{edition_second, edition_other}
use Rattle.book.specs.Reading.{book_of}
use Rattle.book.specs.Opening.{Accepts}
use Rattle.book.proofs.Opening.{accepts_right}
use Rattle.book.proofs.Reading.{accepts_valid, first_unpaired, editions_agree}
use Rattle.book_bytes.proofs.Pairs as Pairs
use Rattle.elimination.specs.Listed.{types_in}
use Rattle.elimination.specs.Survivors.{survivors_of}
use Rattle.placement.specs.Outcome.{outcome}
use Rattle.placement.proofs.Pairs.{with_pairs, survives_fewer, outcome_no_better}
use Rattle.asking.specs.Asking.{link_questions, link_answer}
use Rattle.decider.specs.Deciding.{decision_of, marks_after, placement_after, outcome_in, Decidable, listed_by}
use Rattle.decider.proofs.Alike as Alike
use Rattle.marking.proofs.Marking as Marks
use Rattle.decider.proofs.Listed as Left
use Rattle.demands.specs.Types.{link_answers, link-is_least}
use Rattle.demands.specs.Demand3.{listed_meet_the_rules}

-- ---- the format

module _ (b : List ℕ) where
  -- "Check 1 reads 22 to 982 when byte 0 is 2"
  pub check_1_of_edition_2 : edition b ≡ 2 → LengthRight b ↔ ((22 ≤ length b) × (length b ≤ 982))
  check_1_of_edition_2 e =
      let least = edition_second {A = ℕ} (edition b) 22 18 e in
      let most = edition_second {A = ℕ} (edition b) 982 850 e in
      (λ h. (omega (arith, h.0, least), omega (arith, h.1, most)), λ h. (omega (arith, h.0, least), omega (arith, h.1, most)))

  pub check_1_otherwise : ¬ (edition b ≡ 2) → LengthRight b ↔ ((18 ≤ length b) × (length b ≤ 850))
  check_1_otherwise n =
      let least = edition_other {A = ℕ} (edition b) 22 18 n in
      let most = edition_other {A = ℕ} (edition b) 982 850 n in
      (λ h. (omega (arith, h.0, least), omega (arith, h.1, most)), λ h. (omega (arith, h.0, least), omega (arith, h.1, most)))

module _ (b : List ℕ) (ok : Accepts b) where
  -- "Edition 2 books have a fifth contents entry (head 22 bytes, at most 64 pairs of lower and upper role, body last)."
  pub bodies_begin_at_22 : edition b ≡ 2 → offset_at b 0 ≡ 22
  unfolding sections_of
  bodies_begin_at_22 e = (accepts_right b ok).laid_out.0 ∙ edition_second {A = ℕ} (edition b) 22 18 e

  pub at-most_64_pairs : edition b ≡ 2 → count_at b 4 ≤ 64
  at-most_64_pairs e = omega (arith, (accepts_right b ok).counts_right.1.1.1.1, edition_second (edition b) (count_at b 4) 0 e)

  pub pairs_come_last : edition b ≡ 2 → length b ≡ offset_at b 4 + 2 * count_at b 4
  unfolding sections_of
  pairs_come_last e =
      let right = accepts_right b ok in
      omega (arith, right.laid_out.1.1.1.1.0 e, right.laid_out.1.1.1.1.1, edition_second (edition b) (count_at b 4) 0 e)

  -- these are the book's pairs; edition 1 has none
  pub pairs-are-counted : edition b ≡ 2 → length (book_of b).pairs ≡ count_at b 4
  pairs-are-counted = Pairs.pairs-counted b ok

  pub pairs-are_read : edition b ≡ 2 → (i : ℕ) (d : RolePair) → i < count_at b 4
      → get_or (book_of b).pairs i d ≡ record { lower = get_or b (offset_at b 4 + 2 * i) 0; upper = get_or b (offset_at b 4 + (2 * i + 1)) 0 }
  pairs-are_read = Pairs.pairs_read b ok

  pub edition_1_has_no_pairs : edition b ≡ 1 → (book_of b).pairs ≡ []
  unfolding book_of pairs_of table
  edition_1_has_no_pairs e = ap pairs_of (first_unpaired b e)

  -- "Roles in pairs count towards R."
  pub roles_in_pairs_count : (q : RolePair) → Mem q (book_of b).pairs → (q.lower < role_count (book_of b)) × (q.upper < role_count (book_of b))
  unfolding role_count
  roles_in_pairs_count q m =
      let h = each_mem (λ p. pair_roles p ≤ role_count (book_of b)) (book_of b).pairs (each-highest pair_roles (book_of b).pairs (role_count (book_of b)) (omega arith)) q m in
      (omega (arith, h), omega (arith, h))

-- ---- "reachable upward": the least reflexive and transitive relation that has the pairs

module _ (ps : List RolePair) where
  pub each_reaches_itself : (r : ℕ) → Upward ps r r
  each_reaches_itself = Reaching.upward_refl ps

  pub reached_through_another : (r s t : ℕ) → Upward ps r s → Upward ps s t → Upward ps r t
  reached_through_another = Reaching.upward_trans ps

  pub lower_reaches_upper : (q : RolePair) → Mem q ps → Upward ps q.lower q.upper
  lower_reaches_upper = Reaching.upward_pair ps

  pub no_more-is_reached : (T : ℕ → ℕ → Type 0) → ((r : ℕ) → T r r) → ((r s t : ℕ) → T r s → T s t → T r t)
      → Each (λ q. T q.lower q.upper) ps → (r s : ℕ) → Upward ps r s → T r s
  no_more-is_reached T itself through = Reaching.upward_least T itself through ps

  -- that is, in some number of steps, each from the lower to the upper role of a pair
  pub reached_in_steps : (r s : ℕ) → Upward ps r s ↔ ((n : ℕ) × Steps ps n r s)
  reached_in_steps = Reaching.upward-steps ps

-- ---- links

-- "A link of two candidates is now the least of its own bound and those of all roles reachable upward": what `checker::link` answers
pub link_answers_the_least : (b : List ℕ) → Accepts b → (r c d : ℕ) → first_no (link_questions b r c d) ≡ none
    → (x : ℕ) × (link_answer b r c d ≡ Ok x) × LeastOf (Upward (book_of b).pairs r) (λ t. own_bound (book_of b).grading t c d) x
link_answers_the_least b ok r c d h = (link (book_of b).grading r c d, link_answers b r c d h, link-is_least b ok r c d)

module _ (b : List ℕ) (ok : Accepts b) where
  abbrev G : Grading
  G = (book_of b).grading

  v : Valid (book_of b)
  v = accepts_valid b ok

  -- so no role's link exceeds that of a role reached from it
  pub links_rise : (r s c d : ℕ) → Upward (book_of b).pairs r s → link G r c d ≤ link G s c d
  links_rise r s c d u =
      link_rises G r c d v.well_formed (valid_transitive (book_of b) v) s ((governs-upward G (book_of b).pairs v.pairs_in v.ranked s r).1 u)

  -- "circles are allowed and make roles equal": roles that reach each other have equal links, of candidates
  pub circles_make_links_equal : (r s c d : ℕ) → Upward (book_of b).pairs r s → Upward (book_of b).pairs s r → link G r c d ≡ link G s c d
  circles_make_links_equal r s c d u t = le_antisymm (links_rise r s c d u) (links_rise s r c d t)

  -- and of elements, in every interpretation that is covered
  pub circles_make_roles_equal : (I : Interpretation) → RuleModel (book_of b) I → (r s : ℕ) → Upward (book_of b).pairs r s → Upward (book_of b).pairs s r
      → (e f : ℕ) → e < I.size → f < I.size → I.links r e f ≡ I.links s e f
  circles_make_roles_equal I m r s u t e f he hf =
      le_antisymm (Reaching.pairs_rise (book_of b).pairs I m.pairs_met r s u e f he hf) (Reaching.pairs_rise (book_of b).pairs I m.pairs_met s r t e f he hf)

-- "The verdict, list and later questions cover only interpretations that meet every pair.": a model of the rules (`RuleModel`) meets every pair, and so
-- does the interpretation of the listed types
module _ (b marks buffer : List ℕ) (d : Decidable b (length marks) (length buffer)) where
  abbrev listed : List ℕ
  listed = listed_by b (marks_after b (length buffer) marks)

  pub listed_meet_every_pair : 0 < length listed → (element : ℕ → ℕ) → ((j : ℕ) → element j < length listed)
      → Each (MeetsPair (types_in (book_of b).grading listed element)) (book_of b).pairs
  listed_meet_every_pair h element seated = (listed_meet_the_rules b marks buffer d h element seated).pairs_met

-- ---- and beyond: books that differ in their pairs alone

-- N and the bytes of every other section are the same
pub record SameButPairs (b c : List ℕ) : Type 0 where
  pub steps_same : steps b ≡ steps c
  pub terms_same : term_bytes b (sections_of b) ≡ term_bytes c (sections_of c)
  pub rules_same : rule_bytes b (sections_of b) ≡ rule_bytes c (sections_of c)
  pub memberships_same : membership_bytes b (sections_of b) ≡ membership_bytes c (sections_of c)
  pub links_same : link_bytes b (sections_of b) ≡ link_bytes c (sections_of c)

-- an edition 2 book without pairs is decided as the edition 1 book of the same sections
module _ (b c : List ℕ) (ok : Accepts b) (also : Accepts c) (first : edition b ≡ 1) (none-there : count_at c 4 ≡ 0) (second : edition c ≡ 2)
    (same : SameButPairs b c) where
  one_meaning : book_of b ≡ book_of c
  unfolding sections_of
  one_meaning =
      editions_agree b c first same.steps_same same.terms_same same.rules_same same.memberships_same same.links_same
      (Pairs.no_pairs c also second none-there)

  pub unpaired_decided_alike : (m p : ℕ) → decision_of b m p ≡ decision_of c m p
  unpaired_decided_alike = Alike.decided_alike b c ok also (Alike.same-book (book_of b) (book_of c) one_meaning)

  pub unpaired_marked_alike : (p : ℕ) (marks : List ℕ) → marks_after b p marks ≡ marks_after c p marks
  unpaired_marked_alike = Alike.marks_alike b c ok also (Alike.same-book (book_of b) (book_of c) one_meaning)

  pub unpaired_placed_alike : (m : ℕ) (buffer : List ℕ) → placement_after b m buffer ≡ placement_after c m buffer
  unpaired_placed_alike = Alike.placement_alike b c ok also (Alike.same-book (book_of b) (book_of c) one_meaning)

-- a book with more pairs has no better outcome, and lists no other types
module _ (b c marks buffer others other : List ℕ) (d : Decidable b (length marks) (length buffer)) (e : Decidable c (length others) (length other))
    (same : SameButPairs b c) (more : (q : RolePair) → Mem q (book_of b).pairs → Mem q (book_of c).pairs) where
  abbrev with : List RolePair → Book
  with =
      with_pairs (steps b) (terms_of (term_bytes b (sections_of b))) (rules_of (rule_bytes b (sections_of b))) (memberships_of (membership_bytes b (sections_of b)))
      (links_of (link_bytes b (sections_of b)))

  the_one : book_of b ≡ with (book_of b).pairs
  unfolding book_of sections_of
  the_one = refl

  the_other : book_of c ≡ with (book_of c).pairs
  unfolding book_of sections_of
  the_other = rw (same.steps_same, same.terms_same, same.rules_same, same.memberships_same, same.links_same) refl

  valid : Valid (with (book_of b).pairs)
  valid = subst Valid the_one (accepts_valid b (Left.decidable_suffices b (length marks) (length buffer) d).accepted)

  valid_too : Valid (with (book_of c).pairs)
  valid_too = subst Valid the_other (accepts_valid c (Left.decidable_suffices c (length others) (length other) e).accepted)

  pub more-pairs_no_better : outcome_in (decision_of b (length marks) (length buffer)) ≤ outcome_in (decision_of c (length others) (length other))
  more-pairs_no_better =
      rw (Left.outcome-is (book_of b) _ d, Left.outcome-is (book_of c) _ e, ap outcome the_one, ap outcome the_other)
      (outcome_no_better _ _ _ _ _ (book_of b).pairs (book_of c).pairs more valid valid_too)

  pub more-pairs_list_no_others : (x : ℕ) → Mem x (listed_by c (marks_after c (length other) others)) → Mem x (listed_by b (marks_after b (length buffer) marks))
  more-pairs_list_no_others x =
      rw (Marks.listed-are (book_of b) _ marks d, Marks.listed-are (book_of c) _ others e, ap survivors_of the_one, ap survivors_of the_other)
      (survives_fewer _ _ _ _ _ (book_of b).pairs (book_of c).pairs more valid valid_too x)
