-- Laws of classes: how candidates are thinned, and that a placement may have the first of each class.
-- Assumes nothing.
use mathlib.Core.Path.{◌≡◌, refl, sym, ap, subst, ◌∙◌}
use mathlib.Core.Bool.{Bool, true, false}
use mathlib.Core.Logic.{dite, ite}
use mathlib.Core.List.{List}
use Prim.Native.Nat.{ℕ, ◌+◌, ◌-◌, ◌*◌, ◌≤◌, ◌<◌}
use native.Mathlib.Decide.{ℕ_discrete, dec_lt}
use native.Mathlib.Omega.{arith}
use lib.ListN.{length, get_or, set}
use lib.Seq.{get_or-set_same, get_or-set_other, set_out}
use Rattle.network.specs.declared.Constraint.{Constraint}
use Rattle.gradings.specs.declared.Logic.{Logic}
use Rattle.levels.specs.Rows.{row_at}
use Rattle.domains.specs.Tables.{Allowed}
use Rattle.domains.specs.Consistent.{Fits, Consistent, Problem}
use Rattle.reads.specs.Reads.{Read, Listed}
use Rattle.reads.specs.Classes.{Alike, Matched, ThinnedAt, Thinning, Thinned}
use Rattle.reads.proofs.Reading.{listed_same, same-fits}

-- ---- one candidate exchanged for another that looks alike

exchanged : (s : ℕ → ℕ) (j e : ℕ) → ℕ → ℕ
exchanged s j e k = ite (ℕ_discrete k j) e (s k)

module _ (s : ℕ → ℕ) (j e : ℕ) where
  exchanged_here : (k : ℕ) → k ≡ j → exchanged s j e k ≡ e
  unfolding exchanged ℕ_discrete
  exchanged_here k h = go (ℕ_discrete k j)
    where
      go : (d : Dec (k ≡ j)) → ite d e (s k) ≡ e
      go (yes _) = refl
      go (no n) = absurd (n h)

  exchanged_other : (k : ℕ) → ¬ (k ≡ j) → exchanged s j e k ≡ s k
  unfolding exchanged ℕ_discrete
  exchanged_other k h = go (ℕ_discrete k j)
    where
      go : (d : Dec (k ≡ j)) → ite d e (s k) ≡ s k
      go (yes z) = absurd (h z)
      go (no _) = refl

module _ (lg : Logic) (net : List Constraint) (ends : List ℕ) (count : ℕ) (rows : List ℕ) (n : ℕ) where
  pub thinned_none : (table : List ℕ) → Thinned lg net ends count rows n table table
  thinned_none table = record { fewer = λ x h. h; keeps = λ s h. (s, h, λ j l. omega arith) }

  pub thinned_then : (a b c : List ℕ) → Thinned lg net ends count rows n a b → Thinned lg net ends count rows n b c → Thinned lg net ends count rows n a c
  thinned_then a b c w u = record {
    fewer = λ x h. w.fewer x (u.fewer x h);
    keeps = λ s h. let v = w.keeps s h in let z = u.keeps v.0 v.1 in (z.0, z.1, λ j l. omega (arith, v.2 j l, z.2 j l));
  }

  -- one individual, by what is read of it
  pub thinned_at : (m : ℕ) → Problem lg m net ends count n rows → (j : ℕ) → j < n → (seen : List Bool) → Read net ends j 8 seen
      → (list : List ℕ) → Listed seen 32 (length list) list → (old new : List ℕ) → ThinnedAt list rows j count old new
      → Thinned lg net ends count rows n old new
  thinned_at m p j in-j seen read list listed old new w = record { fewer = w.fewer; keeps = keeps }
    where
      keeps : (s : ℕ → ℕ) → Consistent lg net ends count rows n old s
          → (t : ℕ → ℕ) × Consistent lg net ends count rows n new t × ((k : ℕ) → k < n → t k ≤ s k)
      keeps s h = (t, record { below = below; allowed = allowed; fits = fits }, no_later)
        where
          u : (e : ℕ) × (e ≤ s j) × Allowed new j e × Alike list (row_at rows e) (row_at rows (s j))
          u = w.first (s j) (h.below j in-j) (h.allowed j in-j)

          t : ℕ → ℕ
          t = exchanged s j u.0

          here : (k : ℕ) → k ≡ j → t k ≡ u.0
          here = exchanged_here s j u.0

          other : (k : ℕ) → ¬ (k ≡ j) → t k ≡ s k
          other = exchanged_other s j u.0

          no_later : (k : ℕ) → k < n → t k ≤ s k
          no_later k l = dite (ℕ_discrete k j)
              (λ z. rw (here k z, z) u.1)
              (λ z. rw (other k z) (omega arith))

          below : (k : ℕ) → k < n → t k < count
          below k l = omega (arith, no_later k l, h.below k l)

          allowed : (k : ℕ) → k < n → Allowed new k (t k)
          allowed k l = dite (ℕ_discrete k j)
              (λ z. rw (here k z, z) u.2)
              (λ z. rw (other k z) (w.elsewhere k (s k) z (h.below k l) (h.allowed k l)))

          -- the new candidate of j and that of another
          fits_one : (i : ℕ) → i < n → ¬ (i ≡ j) → Fits lg net ends j i (row_at rows u.0) (row_at rows (s i))
          fits_one i l apart =
              same-fits lg m net ends count n rows p j i (omega (arith, p.individuals_few)) (omega (arith, p.individuals_few)) apart seen read
              (row_at rows (s j)) (row_at rows u.0)
              (λ x k e. sym (listed_same seen list listed (row_at rows u.0) (row_at rows (s j)) u.3 x k e))
              (row_at rows (s i)) (h.fits j i in-j l apart)

          fits : (k i : ℕ) → k < n → i < n → ¬ (i ≡ k) → Fits lg net ends k i (row_at rows (t k)) (row_at rows (t i))
          fits k i l g apart = dite (ℕ_discrete k j)
              (λ z. let y : ¬ (i ≡ j) = λ e. apart (e ∙ sym z) in rw (here k z, other i y, z) (fits_one i g y))
              (λ y. dite (ℕ_discrete i j)
              (λ z. let f = fits_one k l y in rw (other k y, here i z, z) (f.1, f.0))
              (λ z. rw (other k y, other i z) (h.fits k i l g apart)))

-- ---- thinning

module _ (list rows : List ℕ) (j count : ℕ) (old : List ℕ) where
  pub thinning_start : (memory : List ℕ) → ((h : ℕ) → get_or memory h 0 ≡ 0) → Thinning list rows j count 0 old old memory
  thinning_start memory zero = record {
    fewer = λ x h. h;
    elsewhere = λ i d n l a. a;
    later = λ d l h a. a;
    first = λ d l a. absurd (omega arith);
    kept = λ h l. absurd (omega (arith, zero h));
  }

  pub thinning_end : (new memory : List ℕ) (c : ℕ) → count ≤ c → Thinning list rows j count c old new memory → ThinnedAt list rows j count old new
  thinning_end new memory c l w = record { fewer = w.fewer; elsewhere = w.elsewhere; first = λ d h a. w.first d (omega arith) a }

  module _ (new memory : List ℕ) (c : ℕ) (w : Thinning list rows j count c old new memory) where
    pub kept_le : c ≤ 16384 → (h : ℕ) → get_or memory h 0 ≤ 16384
    kept_le l h = dite (dec_lt 0 (get_or memory h 0)) (λ z. omega (arith, (w.kept h z).0)) (λ z. omega arith)

    -- a candidate that was not there
    pub thinning_off : c < count → ¬ Allowed new j c → Thinning list rows j count (c + 1) old new memory
    thinning_off in_c n = record {
      fewer = w.fewer;
      elsewhere = w.elsewhere;
      later = λ d l h a. w.later d (omega arith) h a;
      first = λ d l a. dite (dec_lt d c) (λ z. w.first d z a)
          (λ z. let e : d ≡ c = omega arith in absurd (n (subst (λ (x : ℕ). Allowed new j x) e (w.later d (omega arith) (omega arith) a))));
      kept = λ h l. let u = w.kept h l in (omega (arith, u.0), u.1);
    }

    -- one that stays and is remembered
    pub thinning_new : (next : List ℕ) → c < count → Allowed new j c → Matched list rows c memory next false
        → Thinning list rows j count (c + 1) old new next
    thinning_new next in_c a m = record {
      fewer = w.fewer;
      elsewhere = w.elsewhere;
      later = λ d l h b. w.later d (omega arith) h b;
      first = λ d l b. dite (dec_lt d c) (λ z. w.first d z b)
          (λ z. let e : d ≡ c = omega arith in (d, omega arith, subst (λ (x : ℕ). Allowed new j x) (sym e) a, λ x _. refl));
      kept = kept;
    }
      where
        entry : (h : ℕ) → get_or next h 0 ≡ get_or (set memory m.0 (c + 1)) h 0
        entry h = ap (λ (l : List ℕ). get_or l h 0) m.1

        kept : (h : ℕ) → 0 < get_or next h 0 → (get_or next h 0 ≤ c + 1) × Allowed new j (get_or next h 0 - 1)
        kept h l = dite (ℕ_discrete h m.0)
            (λ z. dite (dec_lt m.0 (length memory)) (λ y. at z y) (λ y. before (out y)))
            (λ z. before (get_or-set_other memory m.0 h (c + 1) 0 z))
          where
            at : h ≡ m.0 → m.0 < length memory → (get_or next h 0 ≤ c + 1) × Allowed new j (get_or next h 0 - 1)
            at z y =
                let e : get_or next h 0 ≡ c + 1 = entry h ∙ ap (λ (x : ℕ). get_or (set memory m.0 (c + 1)) x 0) z ∙ get_or-set_same memory m.0 (c + 1) 0 y in
                (omega (arith, e), subst (λ (x : ℕ). Allowed new j x) (omega (arith, e)) a)

            out : ¬ (m.0 < length memory) → get_or (set memory m.0 (c + 1)) h 0 ≡ get_or memory h 0
            out y = ap (λ (l : List ℕ). get_or l h 0) (set_out memory m.0 (c + 1) (omega arith))

            before : get_or (set memory m.0 (c + 1)) h 0 ≡ get_or memory h 0 → (get_or next h 0 ≤ c + 1) × Allowed new j (get_or next h 0 - 1)
            before z =
                let e : get_or next h 0 ≡ get_or memory h 0 = entry h ∙ z in
                let u = w.kept h (omega (arith, e)) in
                (omega (arith, e, u.0), subst (λ (x : ℕ). Allowed new j (x - 1)) (sym e) u.1)

    -- one that goes, since an earlier one looks alike
    pub thinning_gone : (next : List ℕ) → c < count → count ≤ 16384 → 16384 * j + c < length new → Matched list rows c memory next true
        → Thinning list rows j count (c + 1) old (set new (16384 * j + c) 0) next
    thinning_gone next in_c small room m = record {
      fewer = λ x h. dite (ℕ_discrete x (16384 * j + c))
          (λ e. absurd (omega (arith, h, subst (λ (y : ℕ). get_or (set new (16384 * j + c) 0) y 0 ≡ 0) (sym e) (get_or-set_same new (16384 * j + c) 0 0 room))))
          (λ d. w.fewer x (sym (get_or-set_other new (16384 * j + c) x 0 0 d) ∙ h));
      elsewhere = λ i d n l a. stays i d (λ e. n (omega arith)) (w.elsewhere i d n l a);
      later = λ d l h a. stays j d (λ e. omega arith) (w.later d (omega arith) h a);
      first = λ d l a. dite (dec_lt d c)
          (λ z. let u = w.first d z a in (u.0, u.1, stays j u.0 (λ e. omega (arith, u.1)) u.2, u.3))
          (λ z. let e : d ≡ c = omega arith in let u = w.kept m.1.0 m.1.1 in (
            get_or memory m.1.0 0 - 1,
            omega (arith, u.0, m.1.1),
            stays j (get_or memory m.1.0 0 - 1) (λ y. omega (arith, u.0, m.1.1)) u.1,
            subst (λ (x : ℕ). Alike list (row_at rows (get_or memory m.1.0 0 - 1)) (row_at rows x)) (sym e) m.1.2,
          ));
      kept = λ h l. rw m.0 (let z : 0 < get_or memory h 0 = subst (λ (y : List ℕ). 0 < get_or y h 0) m.0 l in let u = w.kept h z in
          (omega (arith, u.0), stays j (get_or memory h 0 - 1) (λ y. omega (arith, u.0, z)) u.1));
    }
      where
        stays : (i d : ℕ) → ¬ (16384 * i + d ≡ 16384 * j + c) → Allowed new i d → Allowed (set new (16384 * j + c) 0) i d
        stays i d n a = get_or-set_other new (16384 * j + c) (16384 * i + d) 0 0 n ∙ a

-- the answer that was given
pub matched_by : (list rows : List ℕ) (c : ℕ) (old new : List ℕ) (r a : Bool) → r ≡ a → Matched list rows c old new r → Matched list rows c old new a
matched_by list rows c old new r a e m = subst (Matched list rows c old new) e m
