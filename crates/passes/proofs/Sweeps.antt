-- Laws of the steps of a sweep, of sweeps, of their start and of their end.
-- Assumes nothing.
use mathlib.Core.Path.{◌≡◌, refl, sym, subst, ◌∙◌}
use mathlib.Core.Logic.{dite}
use mathlib.Core.List.{List}
use Prim.Native.Nat.{ℕ, ◌+◌, ◌-◌, ◌≤◌, ◌<◌}
use native.Mathlib.Decide.{ℕ_discrete, dec_lt}
use native.Mathlib.Nat.{le_refl, le_trans}
use native.Mathlib.Omega.{arith}
use lib.ListN.{length, get_or, set}
use lib.Seq.{get_or-set_same, get_or-set_other}
use borrow.Author.Count.{below_more}
use Rattle.chain.specs.Search.{rank}
use Rattle.elimination.specs.Marks.{Marked, marked?}
use Rattle.elimination.proofs.Marks.{marked_lt, marked-set, set-marked, rank_unmarked}
use Rattle.zones.specs.Rows.{cell}
use Rattle.witness_boxes.specs.Tables.{Tables}
use Rattle.witness_boxes.specs.Search.{Witness, Remembers, Supported}
use Rattle.passes.specs.Sweeps.{Classes, class_of, SupportedIn, Reduced, Noted, Judged, Dropped, Counted, State, Swept, Settled}

-- ---- which classes have a marked candidate

module _ (xs marks : List ℕ) where
  pub noted-none : (seen : List ℕ) → ((k : ℕ) → get_or seen k 0 ≡ 0) → Noted xs marks seen 0
  noted-none seen z = record { from = λ k h. absurd (omega (arith, z k)); onto = λ c l. absurd (omega arith) }

  module _ (seen : List ℕ) (c : ℕ) (S : Noted xs marks seen c) where
    earlier : (k : ℕ) → Marked seen k → (d : ℕ) × (d < c + 1) × Marked marks d × (class_of xs d ≡ k)
    earlier k m = let u = S.from k m in (u.0, omega (arith, u.1), u.2, u.3)

    pub noted_other : ¬ Marked marks c → Noted xs marks seen (c + 1)
    noted_other n = record { from = earlier; onto = below_more (λ d. Marked marks d → Marked seen (class_of xs d)) c S.onto (λ h. absurd (n h)) }

    pub noted_more : Marked marks c → class_of xs c < length seen → Noted xs marks (set seen (class_of xs c) 1) (c + 1)
    noted_more o h = record {
      from = λ k m. dite (ℕ_discrete k (class_of xs c)) (λ e. (c, omega arith, o, sym e))
          (λ n. earlier k (sym (get_or-set_other seen (class_of xs c) k 1 0 n) ∙ m));
      onto = below_more (λ d. Marked marks d → Marked (set seen (class_of xs c) 1) (class_of xs d)) c (λ d l m. stays (class_of xs d) (S.onto d l m))
          (λ _. get_or-set_same seen (class_of xs c) 1 0 h);
    }
      where
        stays : (k : ℕ) → Marked seen k → Marked (set seen (class_of xs c) 1) k
        stays k m =
            dite (ℕ_discrete k (class_of xs c)) (λ e. subst (Marked (set seen (class_of xs c) 1)) (sym e) (get_or-set_same seen (class_of xs c) 1 0 h))
            (λ n. get_or-set_other seen (class_of xs c) k 1 0 n ∙ m)

    -- c loses its mark
    pub noted_unmarked : Noted xs (set marks c 0) seen (c + 1)
    noted_unmarked = record {
      from = λ k m. let u = S.from k m in (u.0, omega (arith, u.1), set-marked marks c u.0 u.2 (λ e. omega (arith, u.1)), u.3);
      onto = λ d l m. let u = marked-set marks c d m in S.onto d (omega (arith, u.1)) u.0;
    }

-- ---- sources

module _ (T : Tables) (present : List ℕ) where
  pub judged_none : (alive : List ℕ) (a : ℕ) → Judged T present a a alive alive
  judged_none alive a k = (λ h. (h, λ l m. absurd (omega arith)), λ h. h.0)

  pub judged_then : (a b c : ℕ) → a ≤ b → b ≤ c → (alive mid after : List ℕ) → Judged T present a b alive mid → Judged T present b c mid after
      → Judged T present a c alive after
  judged_then a b c ab bc alive mid after f g k = (
    λ h. let u = (g k).0 h in let v = (f k).0 u.0 in (v.0, λ l m. dite (dec_lt k b) (λ p. v.1 l p) (λ p. u.1 (omega arith) m)),
    λ h. (g k).1 ((f k).1 (h.0, λ l m. h.1 l (omega arith)), λ l m. h.1 (omega arith) m),
  )

  -- one source
  pub judged_kept : (alive : List ℕ) (a : ℕ) → (Marked alive a → Supported T present a) → Judged T present a (a + 1) alive alive
  judged_kept alive a f k = (
    λ h. (h, λ l m. let e : k ≡ a = omega arith in subst (Supported T present) (sym e) (f (subst (Marked alive) e h))),
    λ h. h.0,
  )

  pub judged_set : (alive : List ℕ) (a : ℕ) → ¬ Supported T present a → Judged T present a (a + 1) alive (set alive a 0)
  judged_set alive a n k = (
    λ h. let u = marked-set alive a k h in (u.0, λ l m. absurd (u.1 (omega arith))),
    λ h. set-marked alive a k h.0 (λ e. n (subst (Supported T present) e (h.1 (omega arith) (omega arith)))),
  )

-- ---- candidates

module _ (xs alive : List ℕ) where
  pub dropped_none : (marks : List ℕ) (a left : ℕ) → Dropped xs alive a a marks marks left left
  dropped_none marks a left = record {
    marked = λ c. (λ h. (h, λ l m. absurd (omega arith)), λ h. h.0);
    lower = λ c. le_refl _;
    fewer = omega arith;
    same = λ _. refl;
  }

  pub dropped_then : (a b c : ℕ) → a ≤ b → b ≤ c → (marks mid after : List ℕ) (left r q : ℕ) → Dropped xs alive a b marks mid left r
      → Dropped xs alive b c mid after r q → Dropped xs alive a c marks after left q
  dropped_then a b c ab bc marks mid after left r q f g = record {
    marked = λ k. (
      λ h. let u = (g.marked k).0 h in let v = (f.marked k).0 u.0 in (v.0, λ l m. dite (dec_lt k b) (λ p. v.1 l p) (λ p. u.1 (omega arith) m)),
      λ h. (g.marked k).1 ((f.marked k).1 (h.0, λ l m. h.1 l (omega arith)), λ l m. h.1 (omega arith) m),
    );
    lower = λ k. le_trans (g.lower k) (f.lower k);
    fewer = omega (arith, f.fewer, g.fewer);
    same = λ e. g.same (omega (arith, f.fewer, g.fewer)) ∙ f.same (omega (arith, f.fewer, g.fewer));
  }

  -- one candidate
  module _ (marks : List ℕ) (c left : ℕ) where
    pub dropped_kept : (Marked marks c → Marked alive (class_of xs c)) → Dropped xs alive c (c + 1) marks marks left left
    dropped_kept f = record {
      marked = λ k. (
        λ h. (h, λ l m. let e : k ≡ c = omega arith in subst (λ (z : ℕ). Marked alive (class_of xs z)) (sym e) (f (subst (Marked marks) e h))),
        λ h. h.0,
      );
      lower = λ k. le_refl _;
      fewer = omega arith;
      same = λ _. refl;
    }

    module _ (o : Marked marks c) (counted : left ≡ rank (marked? marks) (length marks)) where
      pub some_left : 0 < left
      some_left = omega (arith, rank_unmarked marks c (length marks) o (marked_lt marks c o))

      pub one_less : left - 1 ≡ rank (marked? (set marks c 0)) (length marks)
      one_less = omega (arith, rank_unmarked marks c (length marks) o (marked_lt marks c o))

      pub dropped_set : ¬ Marked alive (class_of xs c) → Dropped xs alive c (c + 1) marks (set marks c 0) left (left - 1)
      dropped_set n = record {
        marked = λ k. (
          λ h. let u = marked-set marks c k h in (u.0, λ l m. absurd (u.1 (omega arith))),
          λ h. set-marked marks c k h.0 (λ e. n (subst (λ (z : ℕ). Marked alive (class_of xs z)) e (h.1 (omega arith) (omega arith)))),
        );
        lower = λ k. dite (ℕ_discrete k c)
            (λ e. omega (arith, subst (λ (z : ℕ). get_or (set marks c 0) z 0 ≡ 0) (sym e) (get_or-set_same marks c 0 0 (marked_lt marks c o))))
            (λ d. omega (arith, get_or-set_other marks c k 0 0 d));
        fewer = omega arith;
        same = λ e. absurd (omega (arith, some_left));
      }

-- ---- marks taken away

module _ (K : Classes) where
  pub reduced-none : (marks : List ℕ) → Reduced K marks marks
  reduced-none marks = record { part = λ c h. h; keeps = λ xs k h. h }

  pub reduced-then : (a b c : List ℕ) → Reduced K a b → Reduced K b c → Reduced K a c
  reduced-then a b c f g = record { part = λ d h. f.part d (g.part d h); keeps = λ xs k h. g.keeps xs k (f.keeps xs k h) }

  -- ---- a sweep: the sources are judged by what is present, the candidates of those that are no longer alive dropped

  module _ (marks : List ℕ) (memory : List (List ℕ)) (alive present : List ℕ) (left : ℕ) (S : State K (length marks) marks memory alive present left) (m : ℕ)
      (sources : (c : ℕ) → c < length marks → class_of K.source c < m) (kept after : List ℕ) (r : ℕ) (J : Judged K.rows present 0 m alive kept)
      (D : Dropped K.source kept 0 (length marks) marks after left r) where
    target_present : (c : ℕ) → Marked marks c → Marked present (class_of K.target c)
    target_present c o = S.targets.onto c (marked_lt marks c o) o

    swept_reduced : Reduced K marks after
    swept_reduced = record {
      part = λ c h. ((D.marked c).0 h).0;
      keeps = λ xs k h c e. (D.marked c).1 (
        h c e,
        λ _ l. (J (class_of K.source c)).1 (
          S.sources.onto c l (h c e),
          λ _ _ q i. let u = k c e q i in (class_of K.target u.0, target_present u.0 (h u.0 u.1), u.2),
        ),
      );
    }

    pub swept : Swept K marks after left r
    swept = record {
      reduced = swept_reduced;
      fewer = D.fewer;
      supported = λ e. subst (λ (x : List ℕ). (c : ℕ) → Marked x c → SupportedIn K x c) (sym (D.same e)) (λ c o q i.
          let l = marked_lt marks c o in
          let h = ((D.marked c).0 (subst (λ (x : List ℕ). Marked x c) (sym (D.same e)) o)).1 (omega arith) l in
          let u = ((J (class_of K.source c)).0 h).1 (omega arith) (sources c l) q i in
          let v = S.targets.from u.0 u.1 in
          (v.0, v.2, subst (Witness K.rows (class_of K.source c) q) (sym v.3) u.2));
    }

    -- a source that stays alive keeps its candidates
    still_alive : Noted K.source after kept (length marks)
    still_alive = record {
      from = λ k h.
          let u = S.sources.from k ((J k).0 h).0 in
          (u.0, u.1, (D.marked u.0).1 (u.2, λ _ _. subst (Marked kept) (sym u.3) h), u.3);
      onto = λ c l h. ((D.marked c).0 h).1 (omega arith) l;
    }

    -- the targets that are present later were present before, so what is remembered of those holds of these
    pub swept_state : (memory' : List (List ℕ)) (later : List ℕ) → Remembers K.rows present memory' → r ≡ rank (marked? after) (length marks)
        → Noted K.target after later (length marks) → State K (length marks) after memory' kept later r
    swept_state memory' later M number N = record {
      counted = record { bits = λ c. le_trans (D.lower c) (S.counted.bits c); number = number };
      sources = still_alive;
      targets = N;
      remembers = λ a q ha hq. let w = M a q ha hq in record {
        within = w.within;
        known = w.known;
        passed = λ d l h.
            let u = N.from d h in
            w.passed d l (subst (Marked present) u.3 (target_present u.0 ((D.marked u.0).0 u.2).0));
      };
    }

  -- ---- the start, and the end

  -- nothing is remembered yet
  pub remembers-none : (present : List ℕ) (memory : List (List ℕ)) → ((a q : ℕ) → cell memory a q ≡ 0) → Remembers K.rows present memory
  remembers-none present memory zeros a q _ _ =
      let z = zeros a q in
      record { within = omega arith; known = λ l. absurd (omega arith); passed = λ d l. absurd (omega arith) }

  -- the last sweep left as many marks as there were
  pub settled : (n : ℕ) (marks mid after : List ℕ) (left r : ℕ) → r ≡ left → Reduced K marks mid → Counted n after r → Swept K mid after left r
      → Settled K n marks after r
  settled n marks mid after left r e f counted W = record {
    reduced = reduced-then marks mid after f W.reduced;
    counted = counted;
    supported = W.supported e;
  }
