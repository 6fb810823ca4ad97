-- Laws of verdicts: the first that is broken, and what the verdict on a book and an interpretation says of its rules, pairs
-- and claims.
-- Assumes nothing.
use mathlib.Core.Path.{◌≡◌, refl, sym, ap, ap₂, subst, ◌∙◌}
use mathlib.Core.Logic.Dec
use mathlib.Core.Logic.Iff
use mathlib.Core.Logic.{◌⊎◌, inl, inr, ⊎_elim, ◌↔◌}
use mathlib.Core.List.{List}
use Prim.Native.Nat.{ℕ, zero, suc, ◌<◌, ◌≤◌}
use native.Mathlib.Decide.{dec_le}
use native.Mathlib.Omega.{arith}
use lib.ListN.{length, get_or}
use borrow.Author.Count.{below_none, below_more}
use Rattle.chain.specs.Lists.{Each, table}
use Rattle.chain.proofs.Search.{below_cases}
use Rattle.chain.proofs.Lists.{each_map, each_at, length-table, get_or-table}
use Rattle.semantics.specs.Roles.{RolePair}
use Rattle.semantics.specs.Interpretations.{Grading, Interpretation, grade_at}
use Rattle.semantics.specs.Books.{Rule, MembershipClaim, LinkClaim, Book, Claimed, MeetsRule, MeetsPair, MeetsMembership, MeetsLink}
use Rattle.working.specs.Working.{Broken, judge, or_else, first_broken, nth_rule, nth_pair, nth_membership, rule_verdict_at, rule_verdict, pair_verdict_at, pair_verdict_from}
use Rattle.working.specs.Working.{pair_verdict, membership_verdict, link_verdict, rules_verdict, pairs_verdict, memberships_verdict, links_verdict, verdict_by, verdict_of}
use Rattle.working.specs.Working.{FirstFailing, MeetsRuleAt, MeetsPairAt, MeetsPairFrom, RulesMet, PairsMet, MembershipsMet, LinksMet, Says}
use Rattle.working.specs.declared.Verdict.{Verdict}
use Rattle.working.specs.declared.Verdict.TheVariants.{Meets, BreaksRule, BreaksPair, BreaksMembership, BreaksLink}

-- ---- met or broken

pub rule_broken : (k e : ℕ) → Broken (BreaksRule k e)
rule_broken k e h = let z : ◌≡◌ {A = ℕ} 0 1 = cc in omega arith

pub pair_broken : (k e f : ℕ) → Broken (BreaksPair k e f)
pair_broken k e f h = let z : ◌≡◌ {A = ℕ} 0 1 = cc in omega arith

pub membership_broken : (k : ℕ) → Broken (BreaksMembership k)
membership_broken k h = let z : ◌≡◌ {A = ℕ} 0 1 = cc in omega arith

pub link_broken : (k : ℕ) → Broken (BreaksLink k)
link_broken k h = let z : ◌≡◌ {A = ℕ} 0 1 = cc in omega arith

pub met_or_broken : (v : Verdict) → (v ≡ Meets) ⊎ Broken v
met_or_broken Meets = inl refl
met_or_broken (BreaksRule k e) = inr (rule_broken k e)
met_or_broken (BreaksPair k e f) = inr (pair_broken k e f)
met_or_broken (BreaksMembership k) = inr (membership_broken k)
met_or_broken (BreaksLink k) = inr (link_broken k)

module _ {A : Type 0} (d : Dec A) (v : Verdict) where
  pub judge_yes : A → judge d v ≡ Meets
  unfolding judge
  judge_yes a = go d
    where
      go : (d : Dec A) → judge d v ≡ Meets
      go (yes _) = refl
      go (no n) = absurd (n a)

  pub judge_no : ¬ A → judge d v ≡ v
  unfolding judge
  judge_no n = go d
    where
      go : (d : Dec A) → judge d v ≡ v
      go (yes a) = absurd (n a)
      go (no _) = refl

  pub judge_meets : Broken v → (judge d v ≡ Meets) ↔ A
  judge_meets b = (λ e. (Dec.not-not d).0 (λ n. b (sym (judge_no n) ∙ e)), judge_yes)

-- by another decision, of a fact that holds exactly when the first does
pub judge-same : {A B : Type 0} (d : Dec A) (e : Dec B) (v : Verdict) → A ↔ B → judge d v ≡ judge e v
judge-same (yes a) e v i = judge_yes (yes a) v a ∙ sym (judge_yes e v (i.0 a))
judge-same (no n) e v i = judge_no (no n) v n ∙ sym (judge_no e v (λ b. n (i.1 b)))

module _ (v w : Verdict) where
  pub else_first : Broken v → or_else v w ≡ v
  unfolding or_else
  else_first = go v
    where
      go : (v : Verdict) → Broken v → or_else v w ≡ v
      go Meets b = absurd (b refl)
      go (BreaksRule k e) b = refl
      go (BreaksPair k e f) b = refl
      go (BreaksMembership k) b = refl
      go (BreaksLink k) b = refl

  pub else_second : v ≡ Meets → or_else v w ≡ w
  unfolding or_else
  else_second e = rw (e, or_else)

  pub else_meets : (or_else v w ≡ Meets) ↔ ((v ≡ Meets) × (w ≡ Meets))
  else_meets = (
    λ e. ⊎_elim (λ m. (m, sym (else_second m) ∙ e)) (λ b. absurd (b (sym (else_first b) ∙ e))) (met_or_broken v),
    λ p. else_second p.0 ∙ p.1,
  )

pub or_else_assoc : (u v w : Verdict) → or_else (or_else u v) w ≡ or_else u (or_else v w)
or_else_assoc u v w =
    ⊎_elim (λ m. rw (else_second u v m, else_second u (or_else v w) m) refl)
    (λ b. rw (else_first u v b, else_first u (or_else v w) b, else_first u w b) refl) (met_or_broken u)

-- ---- the first that is broken

module _ (f : ℕ → Verdict) {P : ℕ → Type 0} (meets : (i : ℕ) → (f i ≡ Meets) ↔ P i) where
  pub first_meets : (n : ℕ) → (first_broken f n ≡ Meets) ↔ ((i : ℕ) → i < n → P i)
  unfolding first_broken
  first_meets zero = (λ _. below_none P, λ _. refl)
  first_meets (suc n) = (
    λ e. let p = (else_meets (first_broken f n) (f n)).0 e in
        λ i h. below_more P n ((first_meets n).0 p.0) ((meets n).0 p.1) i (omega arith),
    λ h. (else_meets _ _).1 ((first_meets n).1 (λ i l. h i (omega arith)), (meets n).1 (h n (omega arith))),
  )

  pub first-at : (n i : ℕ) → FirstFailing P n i → first_broken f n ≡ f i
  unfolding first_broken
  first-at zero i w = absurd (omega (arith, w.below))
  first-at (suc n) i w =
      ⊎_elim (λ e. else_second _ _ ((first_meets n).1 (λ j l. w.passed j (omega arith))) ∙ ap f (sym e))
      (λ l. let ih = first-at n i (record { below = l; fails = w.fails; passed = w.passed }) in
      else_first _ (f n) (λ m. w.fails ((meets i).0 (sym ih ∙ m))) ∙ ih) (below_cases n i w.below)

  pub first_broken_lem : (n : ℕ) → Broken (first_broken f n) → (i : ℕ) × FirstFailing P n i
  unfolding first_broken
  first_broken_lem zero b = absurd (b refl)
  first_broken_lem (suc n) b =
      ⊎_elim (λ m. (n, record { below = omega arith; fails = λ h. b ((else_meets _ _).1 (m, (meets n).1 h)); passed = (first_meets n).0 m }))
      (λ c. let w = first_broken_lem n c in (w.0, record { below = omega (arith, w.1.below); fails = w.1.fails; passed = w.1.passed }))
      (met_or_broken (first_broken f n))

-- of a list's members, by number
module _ {A : Type 0} (f : ℕ → A → Verdict) {P : A → Type 0} (meets : (k : ℕ) (x : A) → (f k x ≡ Meets) ↔ P x) (xs : List A) (d : A) where
  pub first-each : (first_broken (λ k. f k (get_or xs k d)) (length xs) ≡ Meets) ↔ Each P xs
  first-each = Iff.trans (first_meets (λ k. f k (get_or xs k d)) (λ k. meets k (get_or xs k d)) (length xs)) (Iff.symm (each_at P xs d))

-- ---- as a loop meets it: of n verdicts that are f's, those before i are "meets"

module _ (R : ℕ → Verdict → Type 0) (n : ℕ) (f : ℕ → Verdict) (same : (i : ℕ) (v : Verdict) → i < n → R i v → v ≡ f i) where
  met_before : (i : ℕ) → i ≤ n → ((j : ℕ) → j < i → R j Meets) → first_broken f i ≡ Meets
  met_before i h met = (first_meets f (λ _. Iff.rfl) i).1 (λ j l. sym (same j Meets (omega arith) (met j l)))

  pub first_none : ((j : ℕ) → j < n → R j Meets) → Meets ≡ first_broken f n
  first_none met = sym (met_before n (omega arith) met)

  -- v is that of number i
  pub first_found : (i : ℕ) (v : Verdict) → i < n → ((j : ℕ) → j < i → R j Meets) → R i v → Broken v → v ≡ first_broken f n
  first_found i v h met is b =
      let e = same i v h is in
      e ∙ sym (first-at f (λ _. Iff.rfl) n i (record {
        below = h;
        fails = λ q. b (e ∙ q);
        passed = (first_meets f (λ _. Iff.rfl) i).0 (met_before i (omega arith) met);
      }))

-- ---- equal verdicts

pub first-same : (f g : ℕ → Verdict) (n : ℕ) → ((i : ℕ) → i < n → f i ≡ g i) → first_broken f n ≡ first_broken g n
unfolding first_broken
first-same f g zero h = refl
first-same f g (suc n) h = ap₂ or_else (first-same f g n (λ i l. h i (omega arith))) (h n (omega arith))

-- of a table's entries
pub first-table : {A : Type 0} (f : ℕ → A → Verdict) (g : ℕ → A) (d : A) (n : ℕ)
    → first_broken (λ k. f k (get_or (table g n) k d)) (length (table g n)) ≡ first_broken (λ k. f k (g k)) n
first-table f g d n = rw (length-table g n) (first-same _ _ n (λ k l. ap (f k) (get_or-table g n k d l)))

-- by grades that agree on the terms and elements asked about
module _ (g h : (i e : ℕ) → ℕ) (I : Interpretation) (t : ℕ) (same : (i : ℕ) → i < t → (e : ℕ) → e < I.size → g i e ≡ h i e)
    (seated : (j : ℕ) → I.element j < I.size) where
  rule_same : (k : ℕ) (q : Rule) → (q.left < t) × (q.right < t) → rule_verdict g I.size k q ≡ rule_verdict h I.size k q
  unfolding rule_verdict rule_verdict_at
  rule_same k q r =
      first-same _ _ I.size (λ e l. ap₂ (λ (x y : ℕ). judge (dec_le x y) (BreaksRule k e)) (same q.left r.0 e l) (same q.right r.1 e l))

  membership_same : (k : ℕ) (q : MembershipClaim) → q.term < t → membership_verdict g I.element k q ≡ membership_verdict h I.element k q
  unfolding membership_verdict
  membership_same k q r =
      judge-same _ _ _ (
        each_map {P = λ j. Claimed q.sense q.grade (g q.term (I.element j))} (λ j c. rw (← alike j) c) q.members,
        each_map {P = λ j. Claimed q.sense q.grade (h q.term (I.element j))} (λ j c. rw (alike j) c) q.members,
      )
    where
      alike : (j : ℕ) → g q.term (I.element j) ≡ h q.term (I.element j)
      alike j = same q.term r (I.element j) (seated j)

  pub verdict_same : (rs : List Rule) (ps : List RolePair) (ms : List MembershipClaim) (ls : List LinkClaim)
      → Each (λ q. (q.left < t) × (q.right < t)) rs → Each (λ q. q.term < t) ms → verdict_by g I rs ps ms ls ≡ verdict_by h I rs ps ms ls
  unfolding verdict_by rules_verdict memberships_verdict
  verdict_same rs ps ms ls r m =
      ap₂ or_else (first-same _ _ (length rs) (λ k l. rule_same k (nth_rule rs k) ((each_at _ rs _).0 r k l)))
      (ap (λ (v : Verdict). or_else (pairs_verdict I.links I.size ps) (or_else v (links_verdict I ls)))
      (first-same _ _ (length ms) (λ k l. membership_same k (nth_membership ms k) ((each_at _ ms _).0 m k l))))

-- ---- the verdict on a book

module _ (B : Book) (I : Interpretation) where
  abbrev G : Grading
  G = B.grading

  abbrev grade : (i e : ℕ) → ℕ
  grade = grade_at G I

  -- ---- one rule, pair or claim: when it is met, and what is said where it is not

  rule_meets_at : (k : ℕ) (q : Rule) (e : ℕ) → (rule_verdict_at grade k q e ≡ Meets) ↔ MeetsRuleAt G I q e
  unfolding rule_verdict_at
  rule_meets_at k q e = judge_meets _ _ (rule_broken k e)

  rule_meets : (k : ℕ) (q : Rule) → (rule_verdict grade I.size k q ≡ Meets) ↔ MeetsRule G I q
  unfolding rule_verdict
  rule_meets k q = first_meets _ (rule_meets_at k q) I.size

  rule_breaks : (k : ℕ) (q : Rule) (e : ℕ) → FirstFailing (MeetsRuleAt G I q) I.size e → rule_verdict grade I.size k q ≡ BreaksRule k e
  unfolding rule_verdict rule_verdict_at
  rule_breaks k q e w = first-at _ (rule_meets_at k q) I.size e w ∙ judge_no _ _ w.fails

  pair_meets_at : (k : ℕ) (q : RolePair) (e f : ℕ) → (pair_verdict_at I.links k q e f ≡ Meets) ↔ MeetsPairAt I q e f
  unfolding pair_verdict_at
  pair_meets_at k q e f = judge_meets _ _ (pair_broken k e f)

  pair_meets_from : (k : ℕ) (q : RolePair) (e : ℕ) → (pair_verdict_from I.links I.size k q e ≡ Meets) ↔ MeetsPairFrom I q e
  unfolding pair_verdict_from
  pair_meets_from k q e = first_meets _ (pair_meets_at k q e) I.size

  pair_meets : (k : ℕ) (q : RolePair) → (pair_verdict I.links I.size k q ≡ Meets) ↔ MeetsPair I q
  unfolding pair_verdict
  pair_meets k q = Iff.trans (first_meets _ (pair_meets_from k q) I.size) (λ h e f l m. h e l f m, λ h e l f m. h e f l m)

  pair_breaks : (k : ℕ) (q : RolePair) (e f : ℕ) → FirstFailing (MeetsPairFrom I q) I.size e → FirstFailing (MeetsPairAt I q e) I.size f
      → pair_verdict I.links I.size k q ≡ BreaksPair k e f
  unfolding pair_verdict pair_verdict_from pair_verdict_at
  pair_breaks k q e f w u =
      first-at _ (pair_meets_from k q) I.size e w ∙ first-at _ (pair_meets_at k q e) I.size f u ∙ judge_no _ _ u.fails

  membership_meets : (k : ℕ) (q : MembershipClaim) → (membership_verdict grade I.element k q ≡ Meets) ↔ MeetsMembership G I q
  unfolding membership_verdict
  membership_meets k q = judge_meets _ _ (membership_broken k)

  membership_breaks : (k : ℕ) (q : MembershipClaim) → ¬ MeetsMembership G I q → membership_verdict grade I.element k q ≡ BreaksMembership k
  unfolding membership_verdict
  membership_breaks k q = judge_no _ _

  link_meets : (k : ℕ) (q : LinkClaim) → (link_verdict I k q ≡ Meets) ↔ MeetsLink I q
  unfolding link_verdict
  link_meets k q = judge_meets _ _ (link_broken k)

  link_breaks : (k : ℕ) (q : LinkClaim) → ¬ MeetsLink I q → link_verdict I k q ≡ BreaksLink k
  unfolding link_verdict
  link_breaks k q = judge_no _ _

  -- ---- a section

  rules_meet : (rules_verdict grade I.size B.rules ≡ Meets) ↔ RulesMet B I
  unfolding rules_verdict
  rules_meet = first-each _ rule_meets B.rules _

  pairs_meet : (pairs_verdict I.links I.size B.pairs ≡ Meets) ↔ PairsMet B I
  unfolding pairs_verdict
  pairs_meet = first-each _ pair_meets B.pairs _

  memberships_meet : (memberships_verdict grade I.element B.memberships ≡ Meets) ↔ MembershipsMet B I
  unfolding memberships_verdict
  memberships_meet = first-each _ membership_meets B.memberships _

  links_meet : (links_verdict I B.links ≡ Meets) ↔ LinksMet B I
  unfolding links_verdict
  links_meet = first-each _ link_meets B.links _

  -- ---- all of it

  -- an answer that is so is the verdict
  pub says_verdict : (v : Verdict) → Says B I v → verdict_of B I ≡ v
  unfolding verdict_of verdict_by rules_verdict pairs_verdict memberships_verdict links_verdict
  says_verdict Meets s =
      else_second _ _ (rules_meet.1 s.0) ∙ else_second _ _ (pairs_meet.1 s.1) ∙ else_second _ _ (memberships_meet.1 s.2)
      ∙ links_meet.1 s.3
  says_verdict (BreaksRule k e) s =
      let q : rules_verdict grade I.size B.rules ≡ BreaksRule k e = first-at _ (λ j. rule_meets j _) (length B.rules) k s.0 ∙ rule_breaks k _ e s.1 in
      else_first _ _ (λ m. rule_broken k e (sym q ∙ m)) ∙ q
  says_verdict (BreaksPair k e f) s =
      let q : pairs_verdict I.links I.size B.pairs ≡ BreaksPair k e f =
      first-at _ (λ j. pair_meets j _) (length B.pairs) k s.1 ∙ pair_breaks k _ e f s.2 s.3 in
      else_second _ _ (rules_meet.1 s.0) ∙ else_first _ _ (λ m. pair_broken k e f (sym q ∙ m)) ∙ q
  says_verdict (BreaksMembership k) s =
      let q : memberships_verdict grade I.element B.memberships ≡ BreaksMembership k =
      first-at _ (λ j. membership_meets j _) (length B.memberships) k s.2 ∙ membership_breaks k _ s.2.fails in
      else_second _ _ (rules_meet.1 s.0) ∙ else_second _ _ (pairs_meet.1 s.1) ∙ else_first _ _ (λ m. membership_broken k (sym q ∙ m)) ∙ q
  says_verdict (BreaksLink k) s =
      else_second _ _ (rules_meet.1 s.0) ∙ else_second _ _ (pairs_meet.1 s.1) ∙ else_second _ _ (memberships_meet.1 s.2)
      ∙ first-at _ (λ j. link_meets j _) (length B.links) k s.3 ∙ link_breaks k _ s.3.fails

  -- one answer is so: by the link claims, by them or the membership claims, by the pairs or those, by the rules or those
  says-links : RulesMet B I → PairsMet B I → MembershipsMet B I → (v : Verdict) × Says B I v
  unfolding links_verdict
  says-links r p s =
      ⊎_elim (λ l. (Meets, (r, p, s, links_meet.0 l))) (λ b.
      let w = first_broken_lem _ (λ j. link_meets j _) (length B.links) b in (BreaksLink w.0, (r, p, s, w.1)))
      (met_or_broken (links_verdict I B.links))

  says_claims : RulesMet B I → PairsMet B I → (v : Verdict) × Says B I v
  unfolding memberships_verdict
  says_claims r p =
      ⊎_elim (λ m. says-links r p (memberships_meet.0 m)) (λ b.
      let w = first_broken_lem _ (λ j. membership_meets j _) (length B.memberships) b in (BreaksMembership w.0, (r, p, w.1)))
      (met_or_broken (memberships_verdict grade I.element B.memberships))

  says-pairs : RulesMet B I → (v : Verdict) × Says B I v
  unfolding pairs_verdict pair_verdict pair_verdict_from
  says-pairs r =
      ⊎_elim (λ m. says_claims r (pairs_meet.0 m)) (λ b.
      let w = first_broken_lem _ (λ j. pair_meets j _) (length B.pairs) b in
      let q = nth_pair B.pairs w.0 in
      let u = first_broken_lem _ (pair_meets_from w.0 q) I.size (λ m. w.1.fails ((pair_meets w.0 q).0 m)) in
      let x = first_broken_lem _ (pair_meets_at w.0 q u.0) I.size (λ m. u.1.fails ((pair_meets_from w.0 q u.0).0 m)) in
      (BreaksPair w.0 u.0 x.0, (r, w.1, u.1, x.1))) (met_or_broken (pairs_verdict I.links I.size B.pairs))

  says_some : (v : Verdict) × Says B I v
  unfolding rules_verdict rule_verdict
  says_some =
      ⊎_elim (λ m. says-pairs (rules_meet.0 m)) (λ b.
      let w = first_broken_lem _ (λ j. rule_meets j _) (length B.rules) b in
      let u = first_broken_lem _ (rule_meets_at w.0 (nth_rule B.rules w.0)) I.size (λ m. w.1.fails ((rule_meets _ _).0 m)) in
      (BreaksRule w.0 u.0, (w.1, u.1))) (met_or_broken (rules_verdict grade I.size B.rules))

  -- the verdict is the answer that is so
  pub verdict_says : (v : Verdict) → (verdict_of B I ≡ v) ↔ Says B I v
  verdict_says v = (λ e. subst (Says B I) (sym (says_verdict says_some.0 says_some.1) ∙ e) says_some.1, says_verdict v)
