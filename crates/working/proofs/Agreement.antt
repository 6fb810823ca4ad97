-- Interpretations that agree on a book's names, roles and individuals: they give its terms the same grades and meet the same rules, pairs and
-- claims.
-- Assumes nothing.
use mathlib.Core.Path.{◌≡◌, refl, sym, ap, ◌∙◌}
use Prim.Native.Nat.{ℕ, ◌≤◌, ◌<◌}
use native.Mathlib.Omega.{arith}
use lib.ListN.{length}
use Rattle.chain.specs.Connectives.{existential, universal, over}
use Rattle.chain.specs.Lists.{highest}
use Rattle.chain.proofs.Connectives.{over-same}
use Rattle.chain.proofs.Lists.{each_map₂, each_map₃, each_at, each-highest}
use Rattle.semantics.specs.Terms.{Term, name, not, and, or, some, all, top, bottom, term, local}
use Rattle.semantics.specs.Roles.{RolePair}
use Rattle.semantics.specs.Interpretations.{Grading, Interpretation, WellFormed, OnChain, Agree, at_elements, grade_at}
use Rattle.semantics.specs.Books.{Rule, MembershipClaim, LinkClaim, Book, Valid, RuleInRange, TermInRange, name_above, role_above}
use Rattle.semantics.specs.Books.{link_roles, pair_roles, membership_individuals, link_individuals, name_count, role_count, individuals, MeetsRule, MeetsPair, MemberMeets, MeetsMembership, MeetsLink, RuleModel, MeetsClaims}
use Rattle.semantics.proofs.Claims.{members-map}
use Rattle.semantics.proofs.Interpretations.{grade_at-local, grade_at_unique}
use Rattle.working.specs.Working.{verdict_of}
use Rattle.working.specs.declared.Verdict.TheVariants.{Meets}
use Rattle.working.proofs.Working.{says_verdict}

-- ---- grades

module _ (G : Grading) (A R I : ℕ) (M K : Interpretation) (same : Agree A R I M K) where
  -- the table's row for a term whose names and roles are among those
  local_agree : (i : ℕ) (t : Term) → name_above t ≤ A → role_above t ≤ R → (v : ℕ → ℕ → ℕ) (e : ℕ) → e < M.size
      → local (at_elements G M) i t v e ≡ local (at_elements G K) i t v e
  local_agree i (name a) h g v e l = sym (same.names_same a e h l)
  local_agree i (not x) h g v e l = refl
  local_agree i (and x y) h g v e l = refl
  local_agree i (or x y) h g v e l = refl
  local_agree i (some r x) h g v e l =
      over-same existential G.steps (λ f. G.connectives.conjunction (M.links r e f) (v x f))
      (λ f. G.connectives.conjunction (K.links r e f) (v x f)) M.size
      (λ f m. ap (λ (s : ℕ). G.connectives.conjunction s (v x f)) (sym (same.links_same r e f g l m)))
      ∙ ap (over existential G.steps (λ f. G.connectives.conjunction (K.links r e f) (v x f))) (sym same.size_same)
  local_agree i (all r x) h g v e l =
      over-same universal G.steps (λ f. G.connectives.implication (M.links r e f) (v x f))
      (λ f. G.connectives.implication (K.links r e f) (v x f)) M.size
      (λ f m. ap (λ (s : ℕ). G.connectives.implication s (v x f)) (sym (same.links_same r e f g l m)))
      ∙ ap (over universal G.steps (λ f. G.connectives.implication (K.links r e f) (v x f))) (sym same.size_same)
  local_agree i top h g v e l = refl
  local_agree i bottom h g v e l = refl

  pub grade_at_agree : WellFormed G → highest name_above G.terms ≤ A → highest role_above G.terms ≤ R
      → (i : ℕ) → i < length G.terms → (e : ℕ) → e < M.size → grade_at G M i e ≡ grade_at G K i e
  grade_at_agree w names roles i l e h =
      grade_at_unique G K w (grade_at G M) (λ j m f g.
      grade_at-local G M w j m (term G.terms j) refl f
      ∙ local_agree j (term G.terms j) (at name_above A names j m) (at role_above R roles j m) (grade_at G M) f (omega (arith, same.size_same)))
      i l e (omega (arith, same.size_same))
    where
      at : (above : Term → ℕ) (n : ℕ) → highest above G.terms ≤ n → (j : ℕ) → j < length G.terms → above (term G.terms j) ≤ n
      at above n b j m = (each_at (λ t. above t ≤ n) G.terms bottom).0 (each-highest above G.terms n b) j m

-- ---- rules, pairs and claims

module _ (B : Book) (M K : Interpretation) (v : Valid B) (same : Agree (name_count B) (role_count B) (individuals B) M K) where
  abbrev G : Grading
  G = B.grading

  -- the grades that the book asks for
  grade_agree : (i : ℕ) → i < length G.terms → (e : ℕ) → e < M.size → grade_at G M i e ≡ grade_at G K i e
  unfolding name_count role_count
  grade_agree = grade_at_agree G (name_count B) (role_count B) (individuals B) M K same v.well_formed (omega arith) (omega arith)

  rule_agree : (q : Rule) → RuleInRange G q → MeetsRule G M q → MeetsRule G K q
  rule_agree q r h e l =
      let m : e < M.size = omega (arith, same.size_same) in
      rw (← grade_agree q.left r.0 e m, ← grade_agree q.right r.1 e m) (h e m)

  pair_agree : (q : RolePair) → pair_roles q ≤ role_count B → MeetsPair M q → MeetsPair K q
  pair_agree q r h e f l m =
      let e-in : e < M.size = omega (arith, same.size_same) in
      let f-in : f < M.size = omega (arith, same.size_same) in
      rw (same.links_same q.lower e f (omega arith) e-in f-in, same.links_same q.upper e f (omega arith) e-in f-in) (h e f e-in f-in)

  module _ (on : OnChain G.steps M) where
    membership_agree : (q : MembershipClaim) → TermInRange G q → membership_individuals q ≤ individuals B → MeetsMembership G M q → MeetsMembership G K q
    membership_agree q t within =
        members-map q (individuals B) within {P = MemberMeets G M q} {Q = MemberMeets G K q} (λ j l h.
        rw (same.element_same j l, ← grade_agree q.term t (M.element j) (on.element_lt j)) h)

    link_agree : (q : LinkClaim) → link_roles q ≤ role_count B → link_individuals q ≤ individuals B → MeetsLink M q → MeetsLink K q
    link_agree q r j h =
        rw (
          same.element_same q.source (omega arith),
          same.element_same q.target (omega arith),
          same.links_same q.role (M.element q.source) (M.element q.target) r (on.element_lt q.source) (on.element_lt q.target),
        ) h

  -- if the one meets the rules, pairs and claims, so does the other
  pub agree_meets : RuleModel B M → MeetsClaims B M → verdict_of B K ≡ Meets
  unfolding role_count individuals
  agree_meets r c =
      says_verdict B K Meets (
        each_map₂ {R = MeetsRule G K} rule_agree B.rules v.rules_in r.rules_met,
        each_map₂ {R = MeetsPair K} pair_agree B.pairs (each-highest pair_roles B.pairs (role_count B) (omega arith)) r.pairs_met,
        each_map₃ {S = MeetsMembership G K} (membership_agree r.on_chain) B.memberships v.terms_in_range
            (each-highest membership_individuals B.memberships (individuals B) (omega arith)) c.memberships_met,
        each_map₃ {S = MeetsLink K} (link_agree r.on_chain) B.links
            (each-highest link_roles B.links (role_count B) (omega arith))
            (each-highest link_individuals B.links (individuals B) (omega arith)) c.links_met,
      )
