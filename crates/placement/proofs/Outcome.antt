-- Theorem C. The outcome says which models there are: outcome 1 if and only if some finite interpretation meets rules, pairs and claims, 2 if
-- and only if the rules have a model, which meets every pair, but none meets the claims, 3 if and only if the rules have none.
-- Assumes nothing.
use mathlib.Core.Path.{◌≡◌, refl, ap, subst, ◌∙◌}
use mathlib.Core.Logic.{◌⊎◌, inl, inr, ⊎_elim, ◌↔◌}
use mathlib.Core.Option.{Option, none, some}
use mathlib.Core.List.{List, [], ◌∷◌}
use Prim.Native.Nat.{ℕ, ◌≤◌, ◌<◌}
use native.Mathlib.Nat.{le_trans}
use native.Mathlib.Omega.{arith}
use lib.ListN.{length, get_or}
use Rattle.chain.specs.Lists.{Mem, Each, Ascending, table, index}
use Rattle.chain.proofs.Lists.{mem_at, at_mem, each_mem, mem_each, each_map₂, each_map₃, length-table, get_or-table, each-table, each-highest, index_lt, at-index}
use Rattle.semantics.specs.Interpretations.{Grading, Interpretation, grade_at}
use Rattle.semantics.specs.Books.{Book, MembershipClaim, TermInRange, Mentions, membership_individuals, link_individuals, individuals, Valid, MemberMeets, MeetsMembership, MeetsLink, RuleModel, MeetsClaims, RulesSatisfiable, Satisfiable}
use Rattle.semantics.proofs.Claims.{members-map}
use Rattle.types.specs.Candidates.{grade_in, type_of}
use Rattle.types.proofs.Candidates.{type_of_has}
use Rattle.elimination.specs.Survivors.{Sound, Survives, survivors_of}
use Rattle.elimination.specs.Listed.{types_in}
use Rattle.elimination.proofs.Survivors.{survivors_ascending, survivors_sound}
use Rattle.elimination.proofs.Complete.{complete, link_of_types}
use Rattle.elimination.proofs.Listed.{sound_has, sound_meets}
use Rattle.placement.specs.Dictionary.{Drawn, Foremost, Nowhere, Finds}
use Rattle.placement.specs.Outcome.{seat, MembershipMet, HoldsMembership, HoldsLink, HoldsAt, Unmentioned, holds?, placement_among, placement, outcome_of, outcome, placed_among, placed_types, seated_as}
use Rattle.placement.proofs.Dictionary.{seek_finds}

module _ (B : Book) where
  abbrev G : Grading
  G = B.grading

  -- the first at the candidates in xs that meets the claims, or there is none
  pub among_finds : (xs : List ℕ) → Ascending 0 xs → Finds xs (individuals B) (HoldsAt B) (placement_among B xs)
  unfolding placement_among
  among_finds xs s = seek_finds (λ p. holds? B (seat p)) xs s (individuals B)

  -- and so the placement at survivors
  pub placement_finds : Finds (survivors_of B) (individuals B) (HoldsAt B) (placement B)
  unfolding placement
  placement_finds = among_finds (survivors_of B) (survivors_ascending G B.rules)

  pub placement-first : (p : List ℕ) → placement B ≡ some p → Foremost (survivors_of B) (individuals B) (HoldsAt B) p
  placement-first p e = subst (Finds (survivors_of B) (individuals B) (HoldsAt B)) e placement_finds

  pub placement_nowhere : placement B ≡ none → Nowhere (survivors_of B) (individuals B) (HoldsAt B)
  placement_nowhere e = subst (Finds (survivors_of B) (individuals B) (HoldsAt B)) e placement_finds

  -- a placement at survivors that meets the claims
  abbrev pub Placed : List ℕ → Type 0
  Placed p = Drawn (survivors_of B) (individuals B) p × HoldsAt B p

  -- outcome 1 comes with survivors and a placement
  pub outcome-placed : outcome B ≡ 1 → (0 < length (survivors_of B)) × ((p : List ℕ) × (placement B ≡ some p) × Placed p)
  unfolding outcome
  outcome-placed = go (survivors_of B) refl (placement B) refl placement_finds
    where
      go : (xs : List ℕ) → survivors_of B ≡ xs → (o : Option (List ℕ)) → placement B ≡ o → Finds (survivors_of B) (individuals B) (HoldsAt B) o
          → outcome_of B xs o ≡ 1 → (0 < length (survivors_of B)) × ((p : List ℕ) × (placement B ≡ some p) × Placed p)
      go [] e o d f h = absurd (omega arith)
      go (c ∷ cs) e none d f h = absurd (omega arith)
      go (c ∷ cs) e (some p) d f h = (omega (arith, ap length e), (p, d, (f.drawn, f.passes)))

  module _ (w : Valid B) where
    -- every claim is about individuals of the book
    members_in : Each (λ q. membership_individuals q ≤ individuals B) B.memberships
    unfolding individuals
    members_in = each-highest membership_individuals B.memberships (individuals B) (omega arith)

    links_in : Each (λ q. link_individuals q ≤ individuals B) B.links
    unfolding individuals
    links_in = each-highest link_individuals B.links (individuals B) (omega arith)

    -- the rules have a model if and only if a candidate survives
    pub rules_satisfiable : RulesSatisfiable B ↔ (0 < length (survivors_of B))
    rules_satisfiable = (
      λ m. omega (arith, (at_mem (survivors_of B) 0 (type_of G m.0 0) (complete B w m.0 m.1 0 m.1.on_chain.inhabited)).1),
      λ h. (
        types_in G (survivors_of B) (λ _. 0),
        sound_meets B w (survivors_of B) (survivors_sound G B.rules) (λ _. 0) h (λ _. h),
      ),
    )

    -- from a model: each individual at the type of its element
    pub model_placed : Satisfiable B → (p : List ℕ) × Placed p
    model_placed m =
        let I = m.0 in
        let c = m.1.on_chain in
        let t : ℕ → ℕ = λ j. type_of G I (I.element j) in
        let n = individuals B in (
          table t n,
          (
            (length-table t n, each-table (Survives G B.rules) t n (λ j _. complete B w I m.1 (I.element j) (c.element_lt j))),
            (
              each_map₃ {R = MeetsMembership G I} {S = HoldsMembership B (seat (table t n))} (λ q l u.
                  members-map q n u {P = MemberMeets G I q} {Q = λ j. MembershipMet G (seat (table t n) j) q} (λ j below h.
                  rw (get_or-table t n j 0 below, ← type_of_has G w.well_formed I c (I.element j) (c.element_lt j) q.term l) h))
                  B.memberships w.terms_in_range members_in m.2.memberships_met,
              each_map₂ {Q = MeetsLink I} {R = HoldsLink B (seat (table t n))} (λ q u h.
                  rw (get_or-table t n q.source 0 (omega arith), get_or-table t n q.target 0 (omega arith))
                  (le_trans h (link_of_types B w I m.1 q.role (I.element q.source) (I.element q.target) (c.element_lt q.source) (c.element_lt q.target))))
                  B.links links_in m.2.links_met,
            ),
          ),
        )

    -- and back, among the members of any sound set: each individual at the element of its type
    module _ (xs : List ℕ) (sound : Sound G B.rules (λ c. Mem c xs)) (h : 0 < length xs) (p : List ℕ) (v : Drawn xs (individuals B) p) where
      abbrev at : ℕ → ℕ
      at j = index xs (seat p j)

      seated : (j : ℕ) → at j < length xs
      seated j = index_lt xs (seat p j) h

      -- individual j sits at its placed type
      pub placed-seat : (j : ℕ) → j < individuals B → get_or xs (at j) 0 ≡ seat p j
      placed-seat j u = at-index xs (seat p j) (each_mem (λ c. Mem c xs) p v.1 (seat p j) (mem_at p j 0 (omega (arith, v.0))))

      -- what a claim's term is graded there
      grade_there : (q : MembershipClaim) → TermInRange G q → (j : ℕ) → j < individuals B
          → grade_at G (placed_among B xs p) q.term (at j) ≡ grade_in G (seat p j) q.term
      grade_there q t j u =
          sound_has G B.rules w.well_formed xs sound at (at j) (seated j) q.term t ∙ ap (λ (c : ℕ). grade_in G c q.term) (placed-seat j u)

      -- the claims hold of the placement if and only if the types' interpretation meets them
      pub placed_claims : HoldsAt B p → MeetsClaims B (placed_among B xs p)
      placed_claims v = record {
        memberships_met = each_map₃ {R = HoldsMembership B (seat p)} {S = MeetsMembership G (placed_among B xs p)} (λ q t u.
            members-map q (individuals B) u {P = λ j. MembershipMet G (seat p j) q} {Q = MemberMeets G (placed_among B xs p) q} (λ j l g. rw (grade_there q t j l) g))
            B.memberships w.terms_in_range members_in v.0;
        links_met = each_map₂ {Q = HoldsLink B (seat p)} {R = MeetsLink (placed_among B xs p)} (λ q u g.
            rw (placed-seat q.source (omega arith), placed-seat q.target (omega arith)) g) B.links links_in v.1;
      }

      pub claims_placed : MeetsClaims B (placed_among B xs p) → HoldsAt B p
      claims_placed m = (
        each_map₃ {R = MeetsMembership G (placed_among B xs p)} {S = HoldsMembership B (seat p)} (λ q t u.
            members-map q (individuals B) u {P = MemberMeets G (placed_among B xs p) q} {Q = λ j. MembershipMet G (seat p j) q} (λ j l g. rw (← grade_there q t j l) g))
            B.memberships w.terms_in_range members_in m.memberships_met,
        each_map₂ {Q = MeetsLink (placed_among B xs p)} {R = HoldsLink B (seat p)} (λ q u g.
            rw (← placed-seat q.source (omega arith), ← placed-seat q.target (omega arith)) g) B.links links_in m.links_met,
      )

      pub placed-rules : RuleModel B (placed_among B xs p)
      placed-rules = sound_meets B w xs sound at h seated

    -- outcome 1: the listed types, with the individuals as placed, meet everything
    pub outcome_model : outcome B ≡ 1 → (p : List ℕ) × (placement B ≡ some p) × RuleModel B (placed_types B p) × MeetsClaims B (placed_types B p)
        × ((j : ℕ) → j < individuals B → get_or (survivors_of B) ((placed_types B p).element j) 0 ≡ seat p j)
    outcome_model e =
        let u = outcome-placed e in
        let p = u.1.0 in
        let v = u.1.2 in
        let xs = survivors_of B in
        let s = survivors_sound G B.rules in
        (p, u.1.1, placed-rules xs s u.0 p v.0, placed_claims xs s u.0 p v.0 v.1, placed-seat xs s u.0 p v.0)

    -- the placement is the first with which the types' interpretation meets the claims
    pub placement-first_met : 0 < length (survivors_of B) → (p : List ℕ) → placement B ≡ some p
        → Foremost (survivors_of B) (individuals B) (λ q. MeetsClaims B (placed_types B q)) p
    placement-first_met h p e =
        let f = placement-first p e in
        let xs = survivors_of B in
        let s = survivors_sound G B.rules in
        record { drawn = f.drawn; passes = placed_claims xs s h p f.drawn f.passes; foremost = λ q d m. f.foremost q d (claims_placed xs s h q d m) }

    -- THEOREM C: the outcome says which of three is the case
    abbrev pub OutcomeSays : ℕ → Type 0
    OutcomeSays n = ((n ≡ 1) × Satisfiable B) ⊎ (((n ≡ 2) × RulesSatisfiable B × ¬ Satisfiable B) ⊎ ((n ≡ 3) × ¬ RulesSatisfiable B))

    pub verdict : OutcomeSays (outcome B)
    unfolding outcome
    verdict = go (survivors_of B) refl (placement B) placement_finds
      where
        go : (xs : List ℕ) → survivors_of B ≡ xs → (o : Option (List ℕ)) → Finds (survivors_of B) (individuals B) (HoldsAt B) o → OutcomeSays (outcome_of B xs o)
        go [] e o f = inr (inr (refl, λ m. omega (arith, rules_satisfiable.0 m, ap length e)))
        go (c ∷ cs) e none f = inr (inl (refl, rules_satisfiable.1 (omega (arith, ap length e)), λ m. let u = model_placed m in f u.0 u.1.0 u.1.1))
        go (c ∷ cs) e (some p) f =
            let h : 0 < length (survivors_of B) = omega (arith, ap length e) in
            let s = survivors_sound G B.rules in
            inl (refl, (placed_types B p, placed-rules (survivors_of B) s h p f.drawn, placed_claims (survivors_of B) s h p f.drawn f.passes))

    pub outcome_1 : (outcome B ≡ 1) ↔ Satisfiable B
    outcome_1 = go (outcome B) verdict
      where
        go : (n : ℕ) → OutcomeSays n → (n ≡ 1) ↔ Satisfiable B
        go n (inl u) = (λ _. u.1, λ _. u.0)
        go n (inr (inl u)) = (λ e. absurd (omega (arith, u.0)), λ m. absurd (u.2 m))
        go n (inr (inr u)) = (λ e. absurd (omega (arith, u.0)), λ m. absurd (u.1 (m.0, m.1)))

    pub outcome_2 : (outcome B ≡ 2) ↔ (RulesSatisfiable B × ¬ Satisfiable B)
    outcome_2 = go (outcome B) verdict
      where
        go : (n : ℕ) → OutcomeSays n → (n ≡ 2) ↔ (RulesSatisfiable B × ¬ Satisfiable B)
        go n (inl u) = (λ e. absurd (omega (arith, u.0)), λ m. absurd (m.1 u.1))
        go n (inr (inl u)) = (λ _. (u.1, u.2), λ _. u.0)
        go n (inr (inr u)) = (λ e. absurd (omega (arith, u.0)), λ m. absurd (u.1 m.0))

    pub outcome_3 : (outcome B ≡ 3) ↔ (¬ RulesSatisfiable B)
    outcome_3 = go (outcome B) verdict
      where
        go : (n : ℕ) → OutcomeSays n → (n ≡ 3) ↔ (¬ RulesSatisfiable B)
        go n (inl u) = (λ e. absurd (omega (arith, u.0)), λ m. absurd (m (u.1.0, u.1.1)))
        go n (inr (inl u)) = (λ e. absurd (omega (arith, u.0)), λ m. absurd (m u.1))
        go n (inr (inr u)) = (λ _. u.1, λ _. u.0)

    pub unsatisfiable : ((outcome B ≡ 2) ⊎ (outcome B ≡ 3)) ↔ (¬ Satisfiable B)
    unsatisfiable = go (outcome B) verdict
      where
        go : (n : ℕ) → OutcomeSays n → ((n ≡ 2) ⊎ (n ≡ 3)) ↔ (¬ Satisfiable B)
        go n (inl u) = (λ e. absurd (⊎_elim (λ f. omega (arith, u.0)) (λ f. omega (arith, u.0)) e), λ m. absurd (m u.1))
        go n (inr (inl u)) = (λ _. u.2, λ _. inl u.0)
        go n (inr (inr u)) = (λ _ m. u.1 (m.0, m.1), λ _. inr u.0)

-- where an individual that no claim mentions sits makes no difference
pub unmentioned_met : (B : Book) (j : ℕ) → Unmentioned B j → (I : Interpretation) (at : ℕ → ℕ) → ((k : ℕ) → ¬ (k ≡ j) → at k ≡ I.element k)
    → MeetsClaims B I → MeetsClaims B (seated_as I at)
unfolding grade_at
unmentioned_met B j u I at same m = record {
  memberships_met = each_map₂ {Q = MeetsMembership B.grading I} {R = MeetsMembership B.grading (seated_as I at)} (λ q n h.
      mem_each q.members (λ k o. rw (same k (λ e. n (subst (Mentions q) e o))) (each_mem (MemberMeets B.grading I q) q.members h k o)))
      B.memberships u.0 m.memberships_met;
  links_met = each_map₂ {Q = MeetsLink I} {R = MeetsLink (seated_as I at)} (λ q n h. rw (same q.source n.0, same q.target n.1) h)
      B.links u.1 m.links_met;
}
