-- What is prepared for the search stands for the claims: candidates meet them exactly if their grades meet the membership claims, and their rows
-- of slots the constraints.
-- Assumes nothing.
use mathlib.Core.Path.{◌≡◌, refl}
use mathlib.Core.Logic.{◌↔◌}
use mathlib.Core.List.{List}
use Prim.Native.Nat.{ℕ, ◌+◌, ◌*◌, ◌≤◌, ◌<◌}
use native.Mathlib.Omega.{arith}
use lib.ListN.{length}
use Rattle.chain.specs.Lists.{Each}
use Rattle.chain.proofs.Lists.{each_mem, mem_each, each-table, table-each, highest-at}
use Rattle.semantics.specs.Terms.{Ordered}
use Rattle.semantics.specs.Interpretations.{Grading, WellFormed}
use Rattle.semantics.specs.Books.{Book, Mentions, membership_individuals, link_individuals, individuals}
use Rattle.semantics.specs.Links.{Allows}
use Rattle.semantics.proofs.Claims.{mentioned_below}
use Rattle.types.proofs.Candidates.{grade_in_le}
use Rattle.types.proofs.Links.{link-allows}
use Rattle.sections.specs.Terms.{term_count, terms_of}
use Rattle.claims.specs.Claims.{claim_count, membership_at, link_at, memberships_of, links_of}
use Rattle.sections.proofs.Terms.{terms-ordered}
use Rattle.claims.proofs.Claims.{individuals_few}
use Rattle.gradings.specs.Gradings.{grading}
use Rattle.gradings.specs.declared.Logic.{Logic}
use Rattle.gradings.proofs.Gradings.{grading_well_formed}
use Rattle.slots.specs.Slots.{slot_count, slot_role}
use Rattle.slots.specs.Rows.{SlotRow}
use Rattle.slots.proofs.Slots.{slot_role_lem}
use Rattle.placement.specs.Outcome.{MembershipMet, HoldsMembership, HoldsLink}
use Rattle.levels.specs.Rows.{row_at}
use Rattle.boxes.specs.Boxes.{OnChain}
use Rattle.network.specs.declared.Constraint.{Constraint}
use Rattle.network.specs.Constraints.{AllMet}
use Rattle.network.specs.Network.{between, ClaimsMet, NetworkOf}
use Rattle.network.proofs.Links.{slot_row_on_chain, network-right, network_met}
use Rattle.domains.specs.Consistent.{Problem}
use Rattle.filter.specs.Filter.{MembershipsBy, grades_of}
use Rattle.placer.specs.Placing.{Task, claims_book}

-- what the task is searched by: the network of the link claims
pub record Prepared (lg : Logic) (ts slots ms ls marks : List ℕ) (count n : ℕ) (net : List Constraint) (ends : List ℕ) : Type 0 where
  pub task : Task lg ts slots ms ls marks count n
  pub network : (levels : List ℕ) × NetworkOf lg slots ls levels net ends

pub prepared : {lg : Logic} {ts slots ms ls marks : List ℕ} {count n : ℕ} {net : List Constraint} {ends : List ℕ} → Task lg ts slots ms ls marks count n
    → (levels : List ℕ) × NetworkOf lg slots ls levels net ends → Prepared lg ts slots ms ls marks count n net ends
prepared task network = record { task = task; network = network }

module _ {lg : Logic} {ts slots ms ls marks : List ℕ} {count n : ℕ} {net : List Constraint} {ends : List ℕ} (w : Prepared lg ts slots ms ls marks count n net ends) where
  abbrev G : Grading
  G = grading lg (terms_of ts)

  abbrev B : Book
  B = claims_book lg ts ms ls

  ordered : Ordered (terms_of ts)
  ordered = terms-ordered ts w.task.terms_right

  well_formed : WellFormed G
  well_formed = grading_well_formed lg (terms_of ts) ordered

  roles : (j : ℕ) → j < slot_count slots → slot_role slots j < 8
  roles = slot_role_lem ts w.task.terms_right slots w.task.slots_are

  -- a candidate's row of slots is on the chain
  pub on_chain : (c : ℕ) (row : List ℕ) → SlotRow slots (grades_of lg ts c) row → OnChain lg (2 * slot_count slots) row
  on_chain c row = slot_row_on_chain lg (terms_of ts) ordered slots w.task.slots_are (grades_of lg ts c) row (grade_in_le G well_formed c)

  -- ---- the individuals are those that the claims mention, at most eight

  few : n ≤ 8
  unfolding individuals
  few = rw w.task.individuals_are (individuals_few lg.steps (term_count ts) ms ls w.task.memberships_right w.task.links_right)

  member_below : (i : ℕ) → i < claim_count ms → (j : ℕ) → Mentions (membership_at ms i) j → j < n
  unfolding individuals memberships_of
  member_below i l =
      mentioned_below (membership_at ms i) n (omega (arith, w.task.individuals_are, highest-at membership_individuals (membership_at ms) (claim_count ms) i l))

  link-below : (i : ℕ) → i < claim_count ls → ((link_at ls i).source < n) × ((link_at ls i).target < n)
  unfolding individuals links_of
  link-below i l =
      let h = highest-at link_individuals (link_at ls) (claim_count ls) i l in
      (omega (arith, w.task.individuals_are, h), omega (arith, w.task.individuals_are, h))

  pub problem : (rows : List ℕ) → 65 ≤ length ends → 524288 ≤ length rows → Problem lg (2 * slot_count slots) net ends count n rows
  problem rows long rows_long = record {
    wired = record {
      laid = w.network.1.laid;
      long = long;
      right = network-right lg (terms_of ts) ordered slots w.task.slots_are roles ls w.network.0 net ends w.task.links_right w.network.1;
      few = omega (arith, w.task.few_slots);
    };
    candidates_few = w.task.few;
    individuals_few = few;
    rows_long = rows_long;
  }

  -- ---- with individual j at candidate s j

  module _ (s : ℕ → ℕ) where
    abbrev grades : (j i : ℕ) → ℕ
    grades j = grades_of lg ts (s j)

    -- every membership claim is met exactly if the individuals' grades meet those that mention them
    pub members_hold : ((j : ℕ) → j < n → MembershipsBy ms j (grades j)) ↔ Each (HoldsMembership B s) B.memberships
    unfolding memberships_of
    members_hold = (
      λ f. each-table (HoldsMembership B s) (membership_at ms) (claim_count ms) (λ i l.
          mem_each (membership_at ms i).members (λ j m. f j (member_below i l j m) i l m)),
      λ h j _ i l m. each_mem (λ k. MembershipMet G (s k) (membership_at ms i)) (membership_at ms i).members
          (table-each (HoldsMembership B s) (membership_at ms) (claim_count ms) h i l) j m,
    )

    linked : (i : ℕ) → i < claim_count ls → let q = link_at ls i in
        HoldsLink B s q ↔ Allows G q.role (grades q.source) (grades q.target) q.grade
    linked i l =
        let q = link_at ls i in
        link-allows G q.role (s q.source) (s q.target) well_formed q.grade (w.task.links_right i l).1.1.1

    -- with the rows of their candidates
    module _ (rows : List ℕ) (rowed : (j : ℕ) → j < n → SlotRow slots (grades j) (row_at rows (s j))) where
      abbrev row : ℕ → List ℕ
      row j = row_at rows (s j)

      paired : (a b : ℕ) → a < n → b < n → AllMet lg (between net ends a b) (row a) (row b) ↔ ClaimsMet G ls (8 * a + b) (grades a) (grades b)
      paired a b ha hb =
          network_met lg (terms_of ts) ordered slots w.task.slots_are roles ls w.network.0 net ends w.task.links_right w.network.1 (8 * a + b)
          (omega (arith, few)) (grades a) (grades b) (grade_in_le G well_formed (s a)) (grade_in_le G well_formed (s b)) (row a) (row b) (rowed a ha) (rowed b hb)

      -- every link claim is met exactly if these meet the constraints
      pub links_hold : ((a b : ℕ) → a < n → b < n → AllMet lg (between net ends a b) (row a) (row b)) ↔ Each (HoldsLink B s) B.links
      unfolding links_of
      links_hold = (
        λ f. each-table (HoldsLink B s) (link_at ls) (claim_count ls) (λ i l.
            let q = link_at ls i in
            let h = link-below i l in
            (linked i l).1 ((paired q.source q.target h.0 h.1).0 (f q.source q.target h.0 h.1) i l refl)),
        λ h a b ha hb. (paired a b ha hb).1 (λ i l e.
            let k = (w.task.links_right i l).1.1.0 in
            let u : (link_at ls i).source ≡ a = omega (arith, e, few, k) in
            let v : (link_at ls i).target ≡ b = omega (arith, e, few, k) in
            rw (← u, ← v) ((linked i l).0 (table-each (HoldsLink B s) (link_at ls) (claim_count ls) h i l))),
      )
