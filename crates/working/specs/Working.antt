-- What working out a sheet answers: ""meets", or the first rule broken with its lowest element, else the first membership claim broken, else the
-- first link claim". Document 01, "Working out a sheet". Document 02, P1: "On a sheet, "meets" asks for every pair too, and a broken pair is named
-- after the rules and before the claims, with its lowest first, then second element."
-- Assumes nothing.
use Rattle.std.specs.Prelude.{◌≡◌, List, [], ℕ, zero, suc, ◌≤◌, ◌<◌, length, get_or}
use Rattle.std.proofs.Math.Decide.{dec_le}
use Rattle.chain.specs.Lists.{Each, each?}
use Rattle.semantics.specs.Roles.{RolePair}
use Rattle.semantics.specs.Interpretations.{Grading, Interpretation, grade_at}
use Rattle.semantics.specs.Books.{Rule, at_least, MembershipClaim, LinkClaim, Book, claimed?, MeetsRule, MeetsPair, MeetsMembership, MeetsLink}
use Rattle.working.specs.declared.Verdict.{Verdict}
use Rattle.working.specs.declared.Verdict.TheVariants.{Meets, BreaksRule, BreaksPair, BreaksMembership, BreaksLink}

-- ---- verdicts in order

-- something is broken
abbrev pub Broken : Verdict → Type 0
Broken v = ¬ (v ≡ Meets)

-- "meets" where a fact holds, or else what it is that is broken
unfoldable pub judge : {A : Type 0} → Dec A → Verdict → Verdict
judge (yes _) broken = Meets
judge (no _) broken = broken

-- the one verdict, "else" the other
unfoldable pub or_else : Verdict → Verdict → Verdict
or_else Meets w = w
or_else (BreaksRule k e) w = BreaksRule k e
or_else (BreaksPair k e f) w = BreaksPair k e f
or_else (BreaksMembership k) w = BreaksMembership k
or_else (BreaksLink k) w = BreaksLink k

-- the first of f 0, f 1, .., n of them, that is not "meets"
unfoldable pub first_broken : (ℕ → Verdict) → ℕ → Verdict
first_broken f zero = Meets
first_broken f (suc n) = or_else (first_broken f n) (f n)

-- ---- rules, pairs and claims by number

abbrev pub nth_rule : List Rule → ℕ → Rule
nth_rule rs k = get_or rs k (record { left = 0; right = 0 })

abbrev pub nth_pair : List RolePair → ℕ → RolePair
nth_pair ps k = get_or ps k (record { lower = 0; upper = 0 })

abbrev pub nth_membership : List MembershipClaim → ℕ → MembershipClaim
nth_membership ms k = get_or ms k (record { members = []; term = 0; sense = at_least; grade = 0 })

abbrev pub nth_link : List LinkClaim → ℕ → LinkClaim
nth_link ls k = get_or ls k (record { role = 0; source = 0; target = 0; grade = 0 })

-- ---- one rule, pair or claim, q, of number k, by the terms' grades wherever these stand

module _ (grade : (term element : ℕ) → ℕ) where
  unfoldable pub rule_verdict_at : (k : ℕ) → Rule → (element : ℕ) → Verdict
  unfolding dec_le
  rule_verdict_at k q e = judge (dec_le (grade q.left e) (grade q.right e)) (BreaksRule k e)

  -- on n elements: where it is broken, with the lowest at which it is
  unfoldable pub rule_verdict : (n k : ℕ) → Rule → Verdict
  rule_verdict n k q = first_broken (rule_verdict_at k q) n

  unfoldable pub membership_verdict : (element : (individual : ℕ) → ℕ) (k : ℕ) → MembershipClaim → Verdict
  unfolding each? claimed?
  membership_verdict element k q =
      judge (each? (λ j. claimed? q.sense q.grade (grade q.term (element j))) q.members) (BreaksMembership k)

-- a pair, by the links
module _ (link : (role source target : ℕ) → ℕ) where
  unfoldable pub pair_verdict_at : (k : ℕ) → RolePair → (first second : ℕ) → Verdict
  unfolding dec_le
  pair_verdict_at k q e f = judge (dec_le (link q.lower e f) (link q.upper e f)) (BreaksPair k e f)

  -- on n elements: where it is broken at e, with the lowest second element
  unfoldable pub pair_verdict_from : (n k : ℕ) → RolePair → (first : ℕ) → Verdict
  pair_verdict_from n k q e = first_broken (pair_verdict_at k q e) n

  -- where it is broken, "with its lowest first, then second element"
  unfoldable pub pair_verdict : (n k : ℕ) → RolePair → Verdict
  pair_verdict n k q = first_broken (pair_verdict_from n k q) n

unfoldable pub link_verdict : Interpretation → (k : ℕ) → LinkClaim → Verdict
unfolding dec_le
link_verdict I k q = judge (dec_le q.grade (I.links q.role (I.element q.source) (I.element q.target))) (BreaksLink k)

-- ---- all of them

module _ (grade : (term element : ℕ) → ℕ) where
  unfoldable pub rules_verdict : (n : ℕ) → List Rule → Verdict
  rules_verdict n rs = first_broken (λ k. rule_verdict grade n k (nth_rule rs k)) (length rs)

  unfoldable pub memberships_verdict : (element : (individual : ℕ) → ℕ) → List MembershipClaim → Verdict
  memberships_verdict element ms = first_broken (λ k. membership_verdict grade element k (nth_membership ms k)) (length ms)

unfoldable pub pairs_verdict : (link : (role source target : ℕ) → ℕ) (n : ℕ) → List RolePair → Verdict
pairs_verdict link n ps = first_broken (λ k. pair_verdict link n k (nth_pair ps k)) (length ps)

unfoldable pub links_verdict : Interpretation → List LinkClaim → Verdict
links_verdict I ls = first_broken (λ k. link_verdict I k (nth_link ls k)) (length ls)

-- "the first rule broken .., else the first membership claim broken, else the first link claim"; a pair "after the rules and before the claims"
unfoldable pub verdict_by : (grade : (term element : ℕ) → ℕ) → Interpretation → List Rule → List RolePair → List MembershipClaim
    → List LinkClaim → Verdict
verdict_by grade I rs ps ms ls =
    or_else (rules_verdict grade I.size rs)
    (or_else (pairs_verdict I.links I.size ps) (or_else (memberships_verdict grade I.element ms) (links_verdict I ls)))

-- the answer on a book and an interpretation
unfoldable pub verdict_of : Book → Interpretation → Verdict
verdict_of B I = verdict_by (grade_at B.grading I) I B.rules B.pairs B.memberships B.links

-- ---- what each answer says

-- k is the first number below n at which P fails
pub record FirstFailing (P : ℕ → Type 0) (n k : ℕ) : Type 0 where
  pub below : k < n
  pub fails : ¬ P k
  pub passed : (j : ℕ) → j < k → P j

-- rule q is met at element e
abbrev pub MeetsRuleAt : Grading → Interpretation → Rule → ℕ → Type 0
MeetsRuleAt G I q e = grade_at G I q.left e ≤ grade_at G I q.right e

-- pair q is met at first element e and second element f, and at e with every second element
abbrev pub MeetsPairAt : Interpretation → RolePair → (e f : ℕ) → Type 0
MeetsPairAt I q e f = I.links q.lower e f ≤ I.links q.upper e f

abbrev pub MeetsPairFrom : Interpretation → RolePair → (e : ℕ) → Type 0
MeetsPairFrom I q e = (f : ℕ) → f < I.size → MeetsPairAt I q e f

module _ (B : Book) (I : Interpretation) where
  abbrev pub RulesMet : Type 0
  RulesMet = Each (MeetsRule B.grading I) B.rules

  abbrev pub PairsMet : Type 0
  PairsMet = Each (MeetsPair I) B.pairs

  abbrev pub MembershipsMet : Type 0
  MembershipsMet = Each (MeetsMembership B.grading I) B.memberships

  abbrev pub LinksMet : Type 0
  LinksMet = Each (MeetsLink I) B.links

  abbrev pub Says : Verdict → Type 0
  Says Meets = RulesMet × PairsMet × MembershipsMet × LinksMet
  Says (BreaksRule k e) =
      FirstFailing (λ j. MeetsRule B.grading I (nth_rule B.rules j)) (length B.rules) k
      × FirstFailing (MeetsRuleAt B.grading I (nth_rule B.rules k)) I.size e
  Says (BreaksPair k e f) =
      RulesMet × FirstFailing (λ j. MeetsPair I (nth_pair B.pairs j)) (length B.pairs) k
      × FirstFailing (MeetsPairFrom I (nth_pair B.pairs k)) I.size e
      × FirstFailing (MeetsPairAt I (nth_pair B.pairs k) e) I.size f
  Says (BreaksMembership k) =
      RulesMet × PairsMet × FirstFailing (λ j. MeetsMembership B.grading I (nth_membership B.memberships j)) (length B.memberships) k
  Says (BreaksLink k) =
      RulesMet × PairsMet × MembershipsMet × FirstFailing (λ j. MeetsLink I (nth_link B.links j)) (length B.links) k
