-- Laws of the strongest link claims: those of no claim, of one claim for one role more, and of one claim more.
-- Assumes nothing.
use mathlib.Core.Path.{◌≡◌, refl, sym, ap, subst, ◌∙◌}
use mathlib.Core.Logic.{◌⊎◌, inl, inr, ⊎_elim, dite}
use mathlib.Core.List.{List}
use Prim.Native.Nat.{ℕ, ◌+◌, ◌*◌, ◌≤◌, ◌<◌, max}
use native.Mathlib.Decide.{ℕ_discrete, dec_lt}
use native.Mathlib.Omega.{arith}
use lib.ListN.{length, get_or, set}
use lib.Seq.{get_or-set_same, get_or-set_other, set-get_or}
use Rattle.claims.specs.Claims.{claim_count, link_at, LinksRight}
use Rattle.gradings.specs.declared.Logic.{Logic}
use Rattle.levels.specs.Levels.{pair_of, Bounds, level_at, ClaimsRanged, LevelsBy, LevelsOf, LevelsUpTo, NotedFor}

-- the greater of two is put there
pub noted-max : (l : Logic) (t r g at : ℕ) (old : List ℕ) → Bounds l t r → NotedFor l t r g at old (set old at (max (get_or old at 0) g))
noted-max l t r g at old b =
    dite (dec_lt (get_or old at 0) g) (λ h. let e : max (get_or old at 0) g ≡ g = omega arith in inr (b, inr (h, ap (set old at) e)))
    (λ n. let e : max (get_or old at 0) g ≡ get_or old at 0 = omega arith in inr (b, inl (omega arith, ap (set old at) e ∙ set-get_or old at 0)))

module _ (l : Logic) (ls : List ℕ) where
  pub levels_none : (levels : List ℕ) → ((z : ℕ) → get_or levels z 0 ≡ 0) → LevelsOf l ls 0 levels
  levels_none levels zeros = record {
    most = λ i t h _ _. absurd (omega arith);
    some = λ t x _ _ h. absurd (omega (arith, zeros (64 * t + x)));
  }

  -- what was noted, told otherwise
  levels_told : (P Q : (i t : ℕ) → Type 0) (levels : List ℕ) → ((i t : ℕ) → t < 8 → Q i t → P i t) → ((i t : ℕ) → P i t → Q i t) → LevelsBy l ls P levels
      → LevelsBy l ls Q levels
  levels_told P Q levels f g of = record {
    most = λ i t h k b. of.most i t (f i t k h) k b;
    some = λ t x ht hx h. let w = of.some t x ht hx h in (w.0, g w.0 t w.1, w.2, w.3, w.4);
  }

  pub levels_start : (k : ℕ) (levels : List ℕ) → LevelsOf l ls k levels → LevelsUpTo l ls k 0 levels
  levels_start k levels of =
      levels_told _ _ levels (λ i t _ h. ⊎_elim (λ c. c) (λ p. absurd (omega (arith, p.1))) h) (λ i t h. inl h) of

  pub levels_next : (k b : ℕ) (levels : List ℕ) → b ≡ 8 → LevelsUpTo l ls k b levels → LevelsOf l ls (k + 1) levels
  levels_next k b levels e of =
      levels_told _ _ levels (λ i t ht h. dite (ℕ_discrete i k) (λ c. inr (c, omega arith)) (λ n. inl (omega arith)))
      (λ i t h. ⊎_elim (λ c. omega arith) (λ p. omega (arith, p.0)) h) of

  module _ (k b : ℕ) (lt : k < claim_count ls) (hb : b < 8) (ranged : ClaimsRanged ls) (old : List ℕ) (of : LevelsUpTo l ls k b old) where
    abbrev g : ℕ
    g = (link_at ls k).grade

    abbrev at : ℕ
    at = 64 * b + pair_of (link_at ls k)

    -- a claim that is noted already, or the one that is noted now
    cases : (i t : ℕ) → (i < k) ⊎ ((i ≡ k) × (t < b + 1)) → ((i < k) ⊎ ((i ≡ k) × (t < b))) ⊎ ((i ≡ k) × (t ≡ b))
    cases i t (inl h) = inl (inl h)
    cases i t (inr p) = dite (ℕ_discrete t b) (λ e. inr (p.0, e)) (λ n. inl (inr (p.0, omega (arith, p.1))))

    more : (i t : ℕ) → (i < k) ⊎ ((i ≡ k) × (t < b)) → (i < k) ⊎ ((i ≡ k) × (t < b + 1))
    more i t (inl h) = inl h
    more i t (inr p) = inr (p.0, omega (arith, p.1))

    -- nothing is to be raised
    kept : (Bounds l b (link_at ls k).role → g ≤ get_or old at 0) → LevelsUpTo l ls k (b + 1) old
    kept h = record {
      most = λ i t n ht c. ⊎_elim (λ m. of.most i t m ht c)
          (λ p. subst (λ (z : ℕ). (link_at ls z).grade ≤ level_at old t (pair_of (link_at ls z))) (sym p.0)
          (subst (λ (z : ℕ). g ≤ level_at old z (pair_of (link_at ls k))) (sym p.1)
          (h (subst (λ (z : ℕ). Bounds l z (link_at ls k).role) p.1 (subst (λ (z : ℕ). Bounds l t (link_at ls z).role) p.0 c))))) (cases i t n);
      some = λ t x ht hx u. let w = of.some t x ht hx u in (w.0, more w.0 t w.1, w.2, w.3, w.4);
    }

    -- the claim is the strongest
    raised : 512 ≤ length old → Bounds l b (link_at ls k).role → get_or old at 0 < g → LevelsUpTo l ls k (b + 1) (set old at g)
    raised long bounds above = record { most = most; some = some }
      where
        r : ((link_at ls k).role < 8) × ((link_at ls k).source < 8) × ((link_at ls k).target < 8)
        r = ranged k lt

        here : get_or (set old at g) at 0 ≡ g
        here = get_or-set_same old at g 0 (omega (arith, r.1, r.2))

        -- no level falls
        rise : (t x : ℕ) → level_at old t x ≤ level_at (set old at g) t x
        rise t x =
            dite (ℕ_discrete (64 * t + x) at) (λ e. rw e (omega (arith, here)))
            (λ n. omega (arith, get_or-set_other old at (64 * t + x) g 0 n))

        most : (i t : ℕ) → (i < k) ⊎ ((i ≡ k) × (t < b + 1)) → t < 8 → Bounds l t (link_at ls i).role
            → (link_at ls i).grade ≤ level_at (set old at g) t (pair_of (link_at ls i))
        most i t n ht c =
            ⊎_elim (λ m. omega (arith, of.most i t m ht c, rise t (pair_of (link_at ls i))))
            (λ p. subst (λ (z : ℕ). (link_at ls z).grade ≤ level_at (set old at g) t (pair_of (link_at ls z))) (sym p.0)
            (subst (λ (z : ℕ). g ≤ level_at (set old at g) z (pair_of (link_at ls k))) (sym p.1) (omega (arith, here)))) (cases i t n)

        some : (t x : ℕ) → t < 8 → x < 64 → 0 < level_at (set old at g) t x
            → (i : ℕ) × ((i < k) ⊎ ((i ≡ k) × (t < b + 1))) × Bounds l t (link_at ls i).role × (pair_of (link_at ls i) ≡ x)
            × ((link_at ls i).grade ≡ level_at (set old at g) t x)
        some t x ht hx u =
            dite (ℕ_discrete (64 * t + x) at)
            (λ e. let same : t ≡ b = omega (arith, r.1, r.2) in (
              k,
              inr (refl, omega arith),
              subst (λ (z : ℕ). Bounds l z (link_at ls k).role) (sym same) bounds,
              omega (arith, r.1, r.2),
              sym (ap (λ (z : ℕ). get_or (set old at g) z 0) e ∙ here),
            ))
            (λ n. let o = get_or-set_other old at (64 * t + x) g 0 n in
            let w = of.some t x ht hx (rw o at u) in (w.0, more w.0 t w.1, w.2, w.3, w.4 ∙ sym o))

    pub levels_noted : (new : List ℕ) → 512 ≤ length old → NotedFor l b (link_at ls k).role g at old new → LevelsUpTo l ls k (b + 1) new
    levels_noted new long (inl (n, e)) = subst (LevelsUpTo l ls k (b + 1)) (sym e) (kept (λ c. absurd (n c)))
    levels_noted new long (inr (c, inl (h, e))) = subst (LevelsUpTo l ls k (b + 1)) (sym e) (kept (λ _. h))
    levels_noted new long (inr (c, inr (h, e))) = subst (LevelsUpTo l ls k (b + 1)) (sym e) (raised long c h)

  -- levels are on the chain
  pub levels_le : (levels : List ℕ) (N : ℕ) → LinksRight ls N → LevelsOf l ls (claim_count ls) levels → (t x : ℕ) → t < 8 → x < 64 → level_at levels t x ≤ N
  levels_le levels N right of t x ht hx =
      dite (ℕ_discrete (level_at levels t x) 0) (λ e. omega arith)
      (λ n. let w = of.some t x ht hx (omega arith) in omega (arith, w.4, (right w.0 w.1).1.1.1))
