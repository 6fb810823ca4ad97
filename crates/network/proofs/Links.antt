-- Laws of the network: constraints added slot by slot and pair by pair; and what they stand for, that those of a pair are right, and are met
-- exactly where its link claims are.
-- Assumes nothing.
use mathlib.Core.Path.{◌≡◌, refl, sym, ap, subst, ◌∙◌}
use mathlib.Core.Logic.{inl, ◌↔◌, dite}
use mathlib.Core.List.{List}
use Prim.Native.Nat.{ℕ, ◌+◌, ◌-◌, ◌*◌, ◌≤◌, ◌<◌}
use native.Mathlib.Decide.{dec_lt}
use native.Mathlib.Omega.{arith}
use lib.ListN.{length, get_or, set}
use lib.Seq.{get_or-set_same, get_or-set_other}
use borrow.Author.Count.{below_more}
use Rattle.chain.specs.Connectives.{Permits}
use Rattle.chain.proofs.Connectives.{within_trans, through_mono}
use Rattle.semantics.specs.Terms.{Term, Ordered}
use Rattle.semantics.specs.Interpretations.{Grading, WellFormed}
use Rattle.semantics.proofs.Links.{Graded, up_to_link}
use Rattle.claims.specs.Claims.{claim_count, link_at, LinksRight}
use Rattle.gradings.specs.Gradings.{connectives_of, grading}
use Rattle.gradings.specs.declared.Logic.{Logic}
use Rattle.gradings.proofs.Gradings.{logic-lawful, grading_well_formed}
use Rattle.slots.specs.Slots.{slot_count, slot_role, slot_child, slot_term, slot_quantifier, SlotsOf}
use Rattle.slots.specs.Rows.{SlotRow}
use Rattle.slots.proofs.Slots.{slot_child_lem, slots_allow}
use Rattle.network.specs.declared.Constraint.{Constraint}
use Rattle.levels.specs.Levels.{level_at, LevelsOf}
use Rattle.boxes.specs.Boxes.{OnChain}
use Rattle.network.specs.Constraints.{constraint_at, Met, AllMet, AllRight}
use Rattle.network.specs.Network.{constraints_of, OfSlot, NetworkOf, ClaimsMet, SlotAdded, Added, Connected}
use Rattle.network.proofs.Constraints.{part_count, part_at}
use Rattle.levels.proofs.Levels.{levels_le}

module _ (slots levels : List ℕ) where
  -- ---- slot by slot

  module _ (x : ℕ) where
    pub slot_unclaimed : (j : ℕ) (net : List Constraint) (m : ℕ) → level_at levels (slot_role slots j) x ≡ 0 → SlotAdded slots levels x j net m net m
    slot_unclaimed j net m e = record {
      more = omega arith;
      few = omega arith;
      kept = λ z l. refl;
      is = λ l. absurd (omega arith);
      put = λ l. absurd (omega arith);
    }

    pub slot_put : (j : ℕ) (net : List Constraint) (m : ℕ) (k : Constraint) → OfSlot slots levels x j k → m < length net
        → SlotAdded slots levels x j net m (set net m k) (m + 1)
    slot_put j net m k of fits = record {
      more = omega arith;
      few = omega arith;
      kept = λ z l. get_or-set_other net m z _ _ (omega arith);
      is = λ l. subst (OfSlot slots levels x j) (sym (get_or-set_same net m k _ fits)) of;
      put = λ l. omega arith;
    }

    pub added_none : (net : List Constraint) (m : ℕ) → Added slots levels x 0 net m net m
    added_none net m = record {
      more = omega arith;
      few = omega arith;
      kept = λ z l. refl;
      lists = record { are = λ y l h. absurd (omega arith); onto = λ j l p. absurd (omega arith) };
    }

    pub added_more : (j : ℕ) (old : List Constraint) (m : ℕ) (new : List Constraint) (r : ℕ) (last : List Constraint) (t : ℕ)
        → Added slots levels x j old m new r → SlotAdded slots levels x j new r last t → Added slots levels x (j + 1) old m last t
    added_more j old m new r last t d e = record {
      more = omega (arith, d.more, e.more);
      few = omega (arith, d.few, e.few);
      kept = λ z l. e.kept z (omega (arith, d.more)) ∙ d.kept z l;
      lists = record { are = are; onto = onto };
    }
      where
        moved : (i y : ℕ) → y < r → OfSlot slots levels x i (constraint_at new y) → OfSlot slots levels x i (constraint_at last y)
        moved i y l = subst (OfSlot slots levels x i) (sym (e.kept y l))

        are : (y : ℕ) → m ≤ y → y < t → (i : ℕ) × (i < j + 1) × OfSlot slots levels x i (constraint_at last y)
        are y l h =
            dite (dec_lt y r) (λ k. let w = d.lists.are y l k in (w.0, omega (arith, w.1), moved w.0 y k w.2))
            (λ n. let u : r ≡ y = omega (arith, e.few) in
            (j, omega arith, subst (λ (z : ℕ). OfSlot slots levels x j (constraint_at last z)) u (e.is (omega arith))))

        onto : (i : ℕ) → i < j + 1 → 0 < level_at levels (slot_role slots i) x
            → (y : ℕ) × (m ≤ y) × (y < t) × OfSlot slots levels x i (constraint_at last y)
        onto =
            below_more _ j (λ i l p. let w = d.lists.onto i l p in (w.0, w.1, omega (arith, w.2, e.more), moved i w.0 w.2 w.3))
            (λ p. (r, d.more, e.put p, e.is (e.put p)))

  -- ---- pair by pair

  pub connected_none : (net : List Constraint) (ends : List ℕ) → get_or ends 0 0 ≡ 0 → Connected slots levels 0 0 net ends
  connected_none net ends e = record {
    starts = e;
    end = e;
    few = omega arith;
    rising = λ x l. absurd (omega arith);
    lists = λ x l. absurd (omega arith);
  }

  pub connected_more : (k m : ℕ) (net : List Constraint) (ends : List ℕ) (new : List Constraint) (r : ℕ) → k + 1 < length ends
      → slot_count slots ≤ 16 → Connected slots levels k m net ends → Added slots levels k (slot_count slots) net m new r → Connected slots levels (k + 1) r new (set ends (k + 1) r)
  connected_more k m net ends new r long few c d = record {
    starts = below 0 (omega arith) ∙ c.starts;
    end = here;
    few = omega (arith, c.few, d.few);
    rising = below_more _ k
        (λ x l. let w = c.rising x l in rw (below x (omega arith), below (x + 1) (omega arith)) (w.0, w.1, omega (arith, w.2, d.more)))
        (rw (below k (omega arith), here, c.end) (d.more, omega (arith, d.few), omega arith));
    lists = below_more _ k
        (λ x l. let w = c.rising x l in
        let L = c.lists x l in
        rw (below x (omega arith), below (x + 1) (omega arith)) (record {
          are = λ y g h. let u = L.are y g h in (u.0, u.1, moved x u.0 y (omega (arith, w.2)) u.2);
          onto = λ j g p. let u = L.onto j g p in (u.0, u.1, u.2, moved x j u.0 (omega (arith, u.2, w.2)) u.3);
        }))
        (rw (below k (omega arith), here, c.end) d.lists);
  }
    where
      now : List ℕ
      now = set ends (k + 1) r

      below : (x : ℕ) → x < k + 1 → get_or now x 0 ≡ get_or ends x 0
      below x l = get_or-set_other ends (k + 1) x r 0 (omega arith)

      here : get_or now (k + 1) 0 ≡ r
      here = get_or-set_same ends (k + 1) r 0 long

      moved : (x i y : ℕ) → y < m → OfSlot slots levels x i (constraint_at net y) → OfSlot slots levels x i (constraint_at new y)
      moved x i y l = subst (OfSlot slots levels x i) (sym (d.kept y l))

  -- they are the network of the claims that the levels are of
  pub connected_network : (l : Logic) (ls : List ℕ) (net : List Constraint) (ends : List ℕ) (m : ℕ) → LevelsOf l ls (claim_count ls) levels → 1024 ≤ length net
      → Connected slots levels 64 m net ends → NetworkOf l slots ls levels net ends
  connected_network l ls net ends m of long c = record {
    laid = λ x h. let w = c.rising x h in (w.0, omega (arith, w.2, c.few), omega (arith, w.1));
    levels_of = of;
    lists = λ x l. let w = c.rising x l in
        let s : ℕ = get_or ends x 0 in
        let e : ℕ = get_or ends (x + 1) 0 in
        let fits : e ≤ length net = omega (arith, w.2, c.few) in
        let n = part_count net s e fits in
        let at = part_at net s e fits in
        record {
          are = λ y g h. let u = (c.lists x l).are (s + y) (omega arith) (omega (arith, n)) in
              (u.0, u.1, subst (OfSlot slots levels x u.0) (sym (at y (omega (arith, n)))) u.2);
          onto = λ j g p. let u = (c.lists x l).onto j g p in
              let b : s + (u.0 - s) ≡ u.0 = omega (arith, u.1) in
              let h : u.0 - s < e - s = omega (arith, u.1, u.2) in
              (u.0 - s, omega arith, omega (arith, n), subst (OfSlot slots levels x j) (sym (at (u.0 - s) h ∙ ap (constraint_at net) b)) u.3);
        };
  }

-- ---- what the network stands for

module _ (l : Logic) (ts : List Term) (o : Ordered ts) (slots : List ℕ) (S : SlotsOf ts slots) where
  -- a row of slots is on the chain where the grades are
  pub slot_row_on_chain : (f : ℕ → ℕ) (row : List ℕ) → Graded (grading l ts) f → SlotRow slots f row → OnChain l (2 * slot_count slots) row
  slot_row_on_chain f row on w t h =
      dite (dec_lt t (slot_count slots)) (λ k. rw (w.own_is t k) (on (slot_term slots t) (S.terms t k)))
      (λ n. let q : ℕ = t - slot_count slots in
      let k : q < slot_count slots = omega arith in
      let e : slot_count slots + q ≡ t = omega arith in
      rw (← e, w.child_is q k) (on (slot_child slots q) (slot_child_lem ts o slots S q k)))

  module _ (roles : (j : ℕ) → j < slot_count slots → slot_role slots j < 8) (ls levels : List ℕ) (net : List Constraint) (ends : List ℕ)
      (links : LinksRight ls l.steps) (of : NetworkOf l slots ls levels net ends) (x : ℕ) (hx : x < 64) where
    pub network-right : AllRight l (2 * slot_count slots) (constraints_of net ends x)
    network-right y h =
        let w = (of.lists x hx).are y (omega arith) h in
        record {
          level_le = omega (arith, w.2.level, levels_le l ls levels l.steps links of.levels_of (slot_role slots w.0) x (roles w.0 w.1) hx);
          own_lt = omega (arith, w.1, w.2.own);
          child_lt = omega (arith, w.1, w.2.child);
        }

    -- the constraints of a pair are met by two rows of slots exactly if the grades that these are of allow each link that is claimed of the pair
    pub network_met : (f g : ℕ → ℕ) → Graded (grading l ts) f → Graded (grading l ts) g → (a b : List ℕ) → SlotRow slots f a → SlotRow slots g b
        → AllMet l (constraints_of net ends x) a b ↔ ClaimsMet (grading l ts) ls x f g
    network_met f g on-f on-g a b row-a row-b = (to, from)
      where
        G : Grading
        G = grading l ts

        w : WellFormed G
        w = grading_well_formed l ts o

        -- slot j asks nothing through a link of grade 0, and less through a weaker one
        none : (j : ℕ) → j < slot_count slots → Permits (connectives_of l) (slot_quantifier slots j) 0 (g (slot_child slots j)) (f (slot_term slots j))
        none j h =
            (slots_allow G slots S (slot_role slots j) f g 0).1
            ((up_to_link G (slot_role slots j) f g w on-f on-g 0 (omega arith)).0 (omega arith)) j h (inl refl)

        weaker : (j : ℕ) → j < slot_count slots → (s v : ℕ) → s ≤ v → v ≤ l.steps
            → Permits (connectives_of l) (slot_quantifier slots j) v (g (slot_child slots j)) (f (slot_term slots j))
            → Permits (connectives_of l) (slot_quantifier slots j) s (g (slot_child slots j)) (f (slot_term slots j))
        weaker j h s v le on =
            within_trans (slot_quantifier slots j) _ _ _
            (through_mono l.steps (connectives_of l) (logic-lawful l) (slot_quantifier slots j) s v _ le on
            (on-g (slot_child slots j) (slot_child_lem ts o slots S j h)))

        asked : (j : ℕ) (k : Constraint) → j < slot_count slots → OfSlot slots levels x j k
            → Met l k a b ↔ Permits (connectives_of l) (slot_quantifier slots j) (level_at levels (slot_role slots j) x) (g (slot_child slots j))
            (f (slot_term slots j))
        asked j k h w = rw (w.quantifier, w.level, w.own, w.child, row-a.own_is j h, row-b.child_is j h) (λ m. m, λ m. m)

        to : AllMet l (constraints_of net ends x) a b → ClaimsMet G ls x f g
        to m i h e =
            (slots_allow G slots S (link_at ls i).role f g (link_at ls i).grade).0 (λ j hj bounds.
            let t = slot_role slots j in
            let v = level_at levels t x in
            let le : (link_at ls i).grade ≤ v = subst (λ (z : ℕ). (link_at ls i).grade ≤ level_at levels t z) e (of.levels_of.most i t h (roles j hj) bounds) in
            dite (dec_lt 0 v)
            (λ p. let u = (of.lists x hx).onto j hj p in
            weaker j hj (link_at ls i).grade v le (levels_le l ls levels l.steps links of.levels_of t x (roles j hj) hx)
            ((asked j (constraint_at (constraints_of net ends x) u.0) hj u.3).0 (m u.0 u.2)))
            (λ n. let z : 0 ≡ (link_at ls i).grade = omega arith in
            subst (λ (s : ℕ). Permits (connectives_of l) (slot_quantifier slots j) s (g (slot_child slots j)) (f (slot_term slots j))) z (none j hj)))

        from : ClaimsMet G ls x f g → AllMet l (constraints_of net ends x) a b
        from c y h =
            let w = (of.lists x hx).are y (omega arith) h in
            let j = w.0 in
            let t = slot_role slots j in
            let v = level_at levels t x in
            (asked j (constraint_at (constraints_of net ends x) y) w.1 w.2).1
            (dite (dec_lt 0 v)
            (λ p. let u = of.levels_of.some t x (roles j w.1) hx p in
            subst (λ (s : ℕ). Permits (connectives_of l) (slot_quantifier slots j) s (g (slot_child slots j)) (f (slot_term slots j))) u.4
            ((slots_allow G slots S (link_at ls u.0).role f g (link_at ls u.0).grade).1 (c u.0 u.1 u.3) j w.1 u.2))
            (λ n. let z : 0 ≡ v = omega arith in
            subst (λ (s : ℕ). Permits (connectives_of l) (slot_quantifier slots j) s (g (slot_child slots j)) (f (slot_term slots j))) z (none j w.1)))
