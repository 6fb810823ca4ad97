-- Laws of gaps: how they are noted, from the last candidate on.
-- Assumes nothing.
use mathlib.Core.Path.{◌≡◌, refl, sym, subst, ◌∙◌}
use mathlib.Core.Logic.Iff
use mathlib.Core.Logic.{◌↔◌, dite}
use mathlib.Core.List.{List}
use Prim.Native.Nat.{ℕ, ◌+◌, ◌*◌, ◌≤◌, ◌<◌}
use native.Mathlib.Decide.{ℕ_discrete, dec_lt}
use native.Mathlib.Omega.{arith}
use lib.ListN.{length, get_or, set}
use lib.Seq.{get_or-set_same, get_or-set_other, set_out}
use Rattle.domains.specs.Tables.{Allowed}
use Rattle.domains.specs.Gaps.{gap_at, GapsFrom, Gaps, Noting, NotedAll}

pub noting_start : (j count : ℕ) (table : List ℕ) → Noting j count 0 count table table
noting_start j count table = record {
  same = λ x. (λ h. h, λ h. h);
  others = λ i d n l. refl;
  gap = λ e l h. absurd (omega arith);
  noted = λ d l h. absurd (omega arith);
}

module _ (j c g count : ℕ) (old new : List ℕ) (w : Noting j (c + 1) g count old new) where
  -- a candidate that j may have
  pub noting_on : Allowed new j c → Noting j c 0 count old new
  noting_on a = record {
    same = w.same;
    others = w.others;
    gap = λ e l h. absurd (omega arith);
    noted = λ d l h. dite (ℕ_discrete d c)
        (λ z e k m. absurd (omega (arith, m, subst (λ (x : ℕ). gap_at new j x ≡ 1) (sym z) a)))
        (λ n. w.noted d (omega (arith, n)) h);
  }

  -- one that it may not have: the gap is at most one longer
  module _ (v : ℕ) (small : c < 16384) (room : 16384 * j + c < length new) (off : ¬ Allowed new j c) (h : v ≤ g + 1) where
    abbrev next : List ℕ
    next = set new (16384 * j + c) (v + 1)

    here : gap_at next j c ≡ v + 1
    here = get_or-set_same new (16384 * j + c) (v + 1) 0 room

    elsewhere : (x : ℕ) → ¬ (x ≡ 16384 * j + c) → get_or next x 0 ≡ get_or new x 0
    elsewhere x n = get_or-set_other new (16384 * j + c) x (v + 1) 0 n

    -- v is not 0: the cell is not 1
    module _ (pos : 0 < v) where
      still : (x : ℕ) → (get_or next x 0 ≡ 1) ↔ (get_or new x 0 ≡ 1)
      still x = dite (ℕ_discrete x (16384 * j + c))
          (λ z. (
            λ e. absurd (omega (arith, e, subst (λ (y : ℕ). get_or next y 0 ≡ v + 1) (sym z) here)),
            λ e. absurd (off (subst (λ (y : ℕ). get_or new y 0 ≡ 1) z e)),
          ))
          (λ n. (λ e. sym (elsewhere x n) ∙ e, λ e. elsewhere x n ∙ e))

      gap : (e : ℕ) → c ≤ e → e < c + v → ¬ Allowed next j e
      gap e l m a = dite (ℕ_discrete e c)
          (λ z. off (subst (λ (x : ℕ). Allowed new j x) z ((still (16384 * j + e)).0 a)))
          (λ n. w.gap e (omega (arith, n)) (omega arith) ((still (16384 * j + e)).0 a))

      pub noting_off : Noting j c v count old next
      noting_off = record {
        same = λ x. Iff.trans (still x) (w.same x);
        others = λ i d n l. elsewhere (16384 * i + d) (λ e. n (omega arith)) ∙ w.others i d n l;
        gap = gap;
        noted = λ d l m. dite (ℕ_discrete d c)
            (λ z e k y. gap e (omega arith) (omega (arith, y, subst (λ (x : ℕ). gap_at next j x ≡ v + 1) (sym z) here)))
            (λ n e k y a. w.noted d (omega (arith, n)) m e k (omega (arith, y, elsewhere (16384 * j + d) (λ q. n (omega arith))))
            ((still (16384 * j + e)).0 a));
      }

pub noting_end : (j g count : ℕ) (old new : List ℕ) → Noting j 0 g count old new → NotedAll j count old new
noting_end j g count old new w = record { same = w.same; others = w.others; gap = λ e l h. absurd (omega arith); noted = w.noted }

-- ---- individual by individual

-- a cell of a table of which one is made 0
cleared : (table : List ℕ) (y x : ℕ) (P : ℕ → Type 0) → P 0 → P (get_or table x 0) → P (get_or (set table y 0) x 0)
cleared table y x P none same = dite (ℕ_discrete x y)
    (λ z. dite (dec_lt y (length table))
    (λ l. rw (z, get_or-set_same table y 0 0 l) none)
    (λ n. rw (set_out table y 0 (omega arith)) same))
    (λ n. rw (get_or-set_other table y x 0 0 n) same)

-- those of one individual, when the gaps of k are noted
gaps-noted_of : (k i count : ℕ) (old new : List ℕ) → count ≤ 16384 → NotedAll k count old new → (¬ (i ≡ k) → GapsFrom old i 0 count)
    → GapsFrom new i 0 count
gaps-noted_of k i count old new small w f = dite (ℕ_discrete i k)
    (λ z. subst (λ (x : ℕ). GapsFrom new x 0 count) (sym z) w.noted)
    (λ n d m h e u y a. f n d m h e u (omega (arith, y, w.others i d n (omega arith))) ((w.same (16384 * i + e)).0 a))

-- the gaps of one are noted again
pub gaps-noted : (j n count : ℕ) (old new : List ℕ) → count ≤ 16384 → Gaps old n count → NotedAll j count old new → Gaps new n count
gaps-noted j n count old new small f w i l = gaps-noted_of j i count old new small w (λ _. f i l)

-- a candidate is taken away
pub gaps-set : (table : List ℕ) (n count j c : ℕ) → Gaps table n count → Gaps (set table (16384 * j + c) 0) n count
gaps-set table n count j c f i l d m h e u y a =
    f i l d m h e u
    (omega (arith, y, cleared table (16384 * j + c) (16384 * i + d) (λ z. z ≤ gap_at table i d) (omega arith) (omega arith)))
    (cleared table (16384 * j + c) (16384 * i + e) (λ z. z ≡ 1 → Allowed table i e) (λ z. absurd (omega arith)) (λ z. z) a)
