-- Laws of membership claims: how the individuals that a claim mentions bear on the number of individuals, and on its being met; and claims for
-- several individuals, written out as one for each.
-- Assumes nothing.
use mathlib.Core.Path.{◌≡◌, refl, ap, ap₂, ◌∙◌}
use mathlib.Core.Logic.{◌↔◌}
use mathlib.Core.List.{List, [], ◌∷◌, ◌++◌, map}
use Prim.Native.Nat.{ℕ, suc, ◌≤◌, ◌<◌, max}
use native.Mathlib.Omega.{arith}
use Rattle.chain.specs.Lists.{Each, highest}
use Rattle.chain.proofs.Lists.{each_map, each_map₂, each_append, each_mapped, each_mem, mem_each, highest-each, each-highest, highest-append}
use Rattle.semantics.specs.Interpretations.{Interpretation}
use Rattle.semantics.specs.Books.{Book, MembershipClaim, LinkClaim, Mentions, membership_individuals, link_individuals, individuals, MemberMeets, MeetsMembership}

module _ (q : MembershipClaim) (n : ℕ) (within : membership_individuals q ≤ n) where
  -- an individual that it mentions is one of the book's
  pub mentioned_below : (j : ℕ) → Mentions q j → j < n
  mentioned_below j m = omega (arith, each_mem (λ i. suc i ≤ n) q.members (each-highest suc q.members n within) j m)

  -- what is asked of each member, carried over for the book's individuals
  pub members-map : {P Q : ℕ → Type 0} → ((j : ℕ) → j < n → P j → Q j) → Each P q.members → Each Q q.members
  members-map {P} {Q} f = each_map₂ {P = λ i. suc i ≤ n} {Q = P} {R = Q} (λ j l h. f j (omega arith) h) q.members (each-highest suc q.members n within)

-- ---- a claim for several individuals, written out as one claim for each of them

-- the claim q for individual j alone
abbrev pub single : MembershipClaim → ℕ → MembershipClaim
single q j = record { members = j ∷ []; term = q.term; sense = q.sense; grade = q.grade }

-- each claim written out, in its place
unfoldable pub singles : List MembershipClaim → List MembershipClaim
singles [] = []
singles (q ∷ qs) = map (single q) q.members ++ singles qs

-- what is asked of every single claim is asked of every member of every claim
pub singles-each : (P : MembershipClaim → Type 0) (Q : MembershipClaim → ℕ → Type 0) → ((q : MembershipClaim) (j : ℕ) → P (single q j) ↔ Q q j)
    → (qs : List MembershipClaim) → Each P (singles qs) ↔ Each (λ q. Each (Q q) q.members) qs
unfolding singles
singles-each P Q same [] = (λ _. tt, λ _. tt)
singles-each P Q same (q ∷ qs) =
    let here = each_mapped P (single q) (Q q) (same q) q.members in
    let both = each_append P (map (single q) q.members) (singles qs) in
    let rest = singles-each P Q same qs in
    (λ h. let w = both.0 h in (here.0 w.0, rest.0 w.1), λ h. both.1 (here.1 h.0, rest.1 h.1))

-- and no individual is gained or lost
pub singles-highest : (qs : List MembershipClaim) → highest membership_individuals (singles qs) ≡ highest membership_individuals qs
unfolding singles highest
singles-highest [] = refl
singles-highest (q ∷ qs) =
    highest-append membership_individuals (map (single q) q.members) (singles qs) ∙ ap₂ max (here q.members) (singles-highest qs)
  where
    here : (js : List ℕ) → highest membership_individuals (map (single q) js) ≡ highest suc js
    here [] = refl
    here (j ∷ js) = omega (arith, here js)

module _ (B : Book) where
  -- the book with its claims written out
  abbrev pub written : Book
  written = record { grading = B.grading; rules = B.rules; pairs = B.pairs; memberships = singles B.memberships; links = B.links }

  pub written-individuals : individuals written ≡ individuals B
  unfolding individuals
  written-individuals = ap (λ (n : ℕ). max n (highest link_individuals B.links)) (singles-highest B.memberships)

  -- interpretations meet the ones exactly when they meet the others
  pub written_meets : (I : Interpretation) → Each (MeetsMembership B.grading I) (singles B.memberships) ↔ Each (MeetsMembership B.grading I) B.memberships
  written_meets I = singles-each (MeetsMembership B.grading I) (MemberMeets B.grading I) (λ q j. (λ h. h.0, λ h. (h, tt))) B.memberships

  -- ---- the number of individuals: the least that is above every individual that a claim mentions

  pub individuals_least : (n : ℕ)
      → (individuals B ≤ n) ↔ (Each (λ q. (j : ℕ) → Mentions q j → j < n) B.memberships × Each (λ q. (q.source < n) × (q.target < n)) B.links)
  unfolding individuals
  individuals_least n = (
    λ h. (
      each_map {P = λ q. membership_individuals q ≤ n} (λ q l. mentioned_below q n l) B.memberships (each-highest membership_individuals B.memberships n (omega arith)),
      each_map {P = λ q. link_individuals q ≤ n} (λ q l. (omega arith, omega arith)) B.links (each-highest link_individuals B.links n (omega arith)),
    ),
    λ h. let m = highest-each membership_individuals B.memberships n (each_map below B.memberships h.0) in
        let l = highest-each link_individuals B.links n (each_map linked-below B.links h.1) in
        omega arith,
  )
    where
      below : (q : MembershipClaim) → ((j : ℕ) → Mentions q j → j < n) → membership_individuals q ≤ n
      below q f = highest-each suc q.members n (mem_each q.members (λ j o. omega (arith, f j o)))

      linked-below : (q : LinkClaim) → (q.source < n) × (q.target < n) → link_individuals q ≤ n
      linked-below q f = omega arith
