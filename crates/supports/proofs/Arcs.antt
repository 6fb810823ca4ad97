-- Laws of arc consistency: support, what goes, and that it belongs to no consistent placement.
-- Assumes nothing.
use mathlib.Core.Path.{◌≡◌, refl, sym, ap, subst, ◌∙◌}
use mathlib.Core.Bool.{Bool, true, false, ◌||◌}
use mathlib.Core.Logic.{dite, ◌↔◌}
use mathlib.Core.List.{List}
use Rattle.std.specs.Prelude.{Option, Some, None}
use Prim.Native.Nat.{ℕ, ◌+◌, ◌*◌, ◌≤◌, ◌<◌}
use native.Mathlib.Decide.{ℕ_discrete, dec_lt}
use native.Mathlib.Omega.{arith}
use lib.ListN.{length, length-set, get_or, take, set}
use lib.Seq.{get_or-set_same, get_or-set_other}
use Rattle.chain.proofs.Decisions.{never}
use Rattle.chain.proofs.Search.{rank_same}
use Rattle.levels.specs.Rows.{row_at}
use Rattle.elimination.specs.Marks.{marked?}
use Rattle.elimination.proofs.Marks.{rank_unmarked}
use Rattle.domains.specs.Tables.{Allowed}
use Rattle.domains.specs.Gaps.{Gaps, NotedAll, SameAllowed}
use Rattle.domains.proofs.Gaps.{gaps-set, gaps-noted}
use Rattle.domains.specs.declared.Instance.{Instance}
use Rattle.boxes.specs.Boxes.{BoxOf, Narrowed, Inside}
use Rattle.boxes.specs.declared.Bound.{Bound}
use Rattle.supports.specs.Arcs.{FitsIn, ConsistentIn, Domains, Sought, Supported, Tried, left, Went, RevisedBy, SupportedBy, Pruned, Revised}
use Rattle.boxes.proofs.Boxes.{box_of_lem}

-- ---- support

-- what is found in the box of the rows that are compatible is support
module _ (p : Instance) (table : List ℕ) (domains : Domains p table) (j i c : ℕ) (in-i : i < p.individuals) where
  pub tried_of : (found : Option ℕ) (row : List ℕ) (old new : List Bound) (k : ℕ) → row ≡ row_at p.rows.now c
      → Narrowed p.network.logic p.network.columns (FitsIn p j i row) old 0 new k → k ≤ length new
      → Sought p (take k new) table i 0 p.count found → Tried p table j i c found
  tried_of found row old new k same w long = go found
    where
      of : BoxOf p.network.logic p.network.columns (FitsIn p j i (row_at p.rows.now c)) (take k new)
      of = subst (λ (v : List ℕ). BoxOf p.network.logic p.network.columns (FitsIn p j i v) (take k new)) same
          (box_of_lem p.network.logic p.network.columns (FitsIn p j i row) old new k w long)

      asked : (d : ℕ) → d < p.count → Allowed table i d → Inside (take k new) (row_at p.rows.now d) ↔ FitsIn p j i (row_at p.rows.now c) (row_at p.rows.now d)
      asked d l a = of.exact (row_at p.rows.now d) (domains.graded i d in-i l a)

      go : (found : Option ℕ) → Sought p (take k new) table i 0 p.count found → Tried p table j i c found
      go None s = λ h. s h.0 (omega arith) h.1 (h.2, (asked h.0 h.1 h.2).1 h.3)
      go (Some d) s = (s.0, (d, s.0, s.1.0, (asked d s.0 s.1.0).0 s.1.1))

-- ---- what is left

-- in the table or in another with the same candidates
left-same : (old new : List ℕ) → SameAllowed old new → left new ≡ left old
left-same old new f = rank_same (marked? new) (marked? old) 131072 (λ x _. f x)

went_le : (b : Bool) (old new : List ℕ) → Went b old new → left new ≤ left old
went_le true old new h = omega (arith, h)
went_le false old new h = omega (arith, ap left h)

went_less : (b : Bool) (old new : List ℕ) → b ≡ true → Went b old new → left new < left old
went_less b old new e h = subst (λ (x : Bool). Went x old new) e h

went-not : (b : Bool) (old new : List ℕ) → b ≡ false → Went b old new → new ≡ old
went-not b old new e h = subst (λ (x : Bool). Went x old new) e h

-- one candidate goes
went_one : (b : Bool) (old new : List ℕ) (x : ℕ) → x < 131072 → get_or new x 0 ≡ 1 → Went b old new → Went true old (set new x 0)
went_one b old new x l a h = omega (arith, went_le b old new h, rank_unmarked new x 131072 a l)

-- a table that is as long, has no other candidates, and has its gaps noted
domains_fewer : (p : Instance) (old new : List ℕ) → length new ≡ length old → ((x : ℕ) → get_or new x 0 ≡ 1 → get_or old x 0 ≡ 1)
    → Gaps new p.individuals p.count → Domains p old → Domains p new
domains_fewer p old new same fewer gaps w = record {
  long = omega (arith, w.long);
  gaps = gaps;
  graded = λ j c l h a. w.graded j c l h (fewer (16384 * j + c) a);
}

-- where one candidate goes
fewer_set : (table : List ℕ) (at : ℕ) → at < length table → (x : ℕ) → get_or (set table at 0) x 0 ≡ 1 → get_or table x 0 ≡ 1
fewer_set table at room x h = dite (ℕ_discrete x at)
    (λ e. absurd (omega (arith, h, subst (λ (y : ℕ). get_or (set table at 0) y 0 ≡ 0) (sym e) (get_or-set_same table at 0 0 room))))
    (λ n. sym (get_or-set_other table at x 0 0 n) ∙ h)

pub domains_set : (p : Instance) (table : List ℕ) (j c : ℕ) → 16384 * j + c < length table → Domains p table → Domains p (set table (16384 * j + c) 0)
domains_set p table j c room w =
    domains_fewer p table (set table (16384 * j + c) 0) (length-set table (16384 * j + c) 0) (fewer_set table (16384 * j + c) room)
    (gaps-set table p.individuals p.count j c w.gaps) w

-- where gaps are noted
pub domains_noted : (p : Instance) (j : ℕ) (old new : List ℕ) → length new ≡ length old → Domains p old → NotedAll j p.count old new → Domains p new
domains_noted p j old new same w noted =
    domains_fewer p old new same (λ x. (noted.same x).0) (gaps-noted j p.individuals p.count old new p.problem.candidates_few w.gaps noted) w

-- ---- the revision of one individual by another, candidate by candidate

module _ (p : Instance) (j i : ℕ) where
  module _ (k : ℕ) (b : Bool) (old new : List ℕ) (w : RevisedBy p j i k b old new) where
    -- one that has support stays
    pub revised_kept : Supported p new j i k → RevisedBy p j i (k + 1) b old new
    revised_kept s = record {
      fewer = w.fewer;
      others = w.others;
      gone = w.gone;
      went = w.went;
      held = λ e c l a. dite (dec_lt c k)
          (λ h. w.held e c h a)
          (λ h. let z : k ≡ c = omega arith in
          subst (λ (x : ℕ). Supported p old j i x) z
          (subst (λ (t : List ℕ). Supported p t j i k) (went-not b old new e w.went) s));
    }

    -- one that has none goes
    pub revised_taken : ¬ (i ≡ j) → k < p.count → 16384 * j + k < 131072 → 131072 ≤ length new → Allowed new j k
        → ¬ Supported p new j i k → RevisedBy p j i (k + 1) true old (set new (16384 * j + k) 0)
    revised_taken apart in-k room long on none = record {
      fewer = λ x h. w.fewer x (fewer_set new (16384 * j + k) (omega arith) x h);
      others = λ x f. elsewhere x (f k in-k) ∙ w.others x f;
      gone = λ c l a n. dite (ℕ_discrete c k)
          (λ e h. none (subst (λ (x : ℕ). Supported p new j i x) e (moved c h)))
          (λ d. w.gone c l a (λ o. n (elsewhere (16384 * j + c) (λ e. d (omega arith)) ∙ o)));
      went = went_one b old new (16384 * j + k) room on w.went;
      held = λ e. never e;
    }
      where
        elsewhere : (x : ℕ) → ¬ (x ≡ 16384 * j + k) → get_or (set new (16384 * j + k) 0) x 0 ≡ get_or new x 0
        elsewhere x n = get_or-set_other new (16384 * j + k) x 0 0 n

        -- the candidates of i are as they were
        moved : (c : ℕ) → Supported p old j i c → Supported p new j i c
        moved c h =
            let l = h.1 in
            (h.0, l, w.others (16384 * i + h.0) (λ d u e. apart (omega (arith, p.problem.candidates_few))) ∙ h.2, h.3)

-- ---- what is taken away belongs to no consistent placement

module _ (p : Instance) where
  pruned-then : (a b c : List ℕ) → Pruned p a b → Pruned p b c → Pruned p a c
  pruned-then a b c w u = record { fewer = λ x h. w.fewer x (u.fewer x h); keeps = λ s h. u.keeps s (w.keeps s h) }

  -- the same candidates, with other gaps
  pruned-same : (old new : List ℕ) → SameAllowed old new → Pruned p old new
  pruned-same old new f = record {
    fewer = λ x. (f x).0;
    keeps = λ s w. record { below = w.below; allowed = λ k l. (f (16384 * k + s k)).1 (w.allowed k l); fits = w.fits };
  }

  -- by the constraints between j and i
  module _ (j i : ℕ) (in-j : j < p.individuals) (in-i : i < p.individuals) (apart : ¬ (i ≡ j)) where
    pruned_by : (k : ℕ) (b : Bool) (old new : List ℕ) → RevisedBy p j i k b old new
        → Pruned p old new
    pruned_by k b old new w = record {
      fewer = w.fewer;
      keeps = λ s u. record { below = u.below; allowed = λ h l. stays s u h l; fits = u.fits };
    }
      where
        own : (s : ℕ → ℕ) → ConsistentIn p old s → Allowed new j (s j)
        own s u = dite (ℕ_discrete (get_or new (16384 * j + s j) 0) 1)
            (λ e. e)
            (λ m. absurd (w.gone (s j) (u.below j in-j) (u.allowed j in-j) m
            (s i, u.below i in-i, u.allowed i in-i, u.fits j i in-j in-i apart)))

        stays : (s : ℕ → ℕ) → ConsistentIn p old s → (h : ℕ) → h < p.individuals → Allowed new h (s h)
        stays s u h l = dite (ℕ_discrete h j)
            (λ e. subst (λ (x : ℕ). Allowed new x (s x)) (sym e) (own s u))
            (λ m. let z = u.below h l in w.others (16384 * h + s h) (λ d v e. m (omega (arith, p.problem.candidates_few))) ∙ u.allowed h l)

    -- candidates went, and the gaps are noted
    pub revised_noted : (b : Bool) (old mid new : List ℕ) → b ≡ true → RevisedBy p j i p.count b old mid → SameAllowed mid new
        → Revised p (SupportedBy p j i) true old new
    revised_noted b old mid new e w same = record {
      pruned = pruned-then old mid new (pruned_by p.count b old mid w) (pruned-same mid new same);
      went = omega (arith, went_less b old mid e w.went, left-same mid new same);
      held = λ z. never z;
    }

  -- ---- one revision after the other

  -- whether candidates went, in one or the other
  pub revised_or : (Q R S : List ℕ → Type 0) (a b c : List ℕ) (x y : Bool) → ((t : List ℕ) → Q t → R t → S t)
      → Revised p Q x a b → Revised p R y b c → Revised p S (x || y) a c
  revised_or Q R S a b c true y f w u = record {
    pruned = pruned-then a b c w.pruned u.pruned;
    went = omega (arith, w.went, went_le y b c u.went);
    held = λ z. never z;
  }
  revised_or Q R S a b c false true f w u = record {
    pruned = pruned-then a b c w.pruned u.pruned;
    went = omega (arith, went_le false a b w.went, u.went);
    held = λ z. never z;
  }
  revised_or Q R S a b c false false f w u = record {
    pruned = pruned-then a b c w.pruned u.pruned;
    went = u.went ∙ w.went;
    held = λ z. f a (w.held z) (subst R w.went (u.held z));
  }
