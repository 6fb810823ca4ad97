-- Laws of sets of terms as words: one term more, one left term more, one level more, one type more; and their bytes.
-- Assumes nothing.
use mathlib.Core.Path.{◌≡◌, refl, sym, subst, ◌∙◌}
use mathlib.Core.Logic.{dite, ◌↔◌}
use mathlib.Core.List.{List, ◌++◌}
use Prim.Native.Nat.{ℕ, zero, suc, ◌+◌, ◌-◌, ◌*◌, ◌^◌, ◌≤◌, ◌<◌}
use native.Mathlib.Nat.{pow-suc, pow-zero}
use native.Mathlib.Decide.{ℕ_discrete, dec_lt}
use native.Mathlib.Omega.{arith}
use lib.Arith.{digits_lt}
use lib.Bits.{bit_and}
use lib.ListN.{length, get_or, take, drop, set, length-drop}
use lib.Pow.{pow_mono}
use lib.Seq.{get_or-set_same, get_or-set_other, length-take-le}
use borrow.Author.Count.{below_more}
use Rattle.chain.proofs.Lists.{length-table}
use Rattle.chain.proofs.Blocks.{fill_none, fill_more}
use Rattle.encoding.specs.Bits.{Bit}
use Rattle.encoding.proofs.Bits.{bit_lowest, bit-above, bit-and}
use Rattle.term_sets.specs.Sets.{GatheredFrom, Gathered, Narrowed, set_row, set_table}

-- ---- the terms that a row grades at least so high, from the last to the first

module _ (row : List ℕ) (level : ℕ) where
  pub gathered_none : GatheredFrom row level (length row) 0
  gathered_none = let e : length row - length row ≡ 0 = omega arith in (rw (e, pow-zero 2) (omega arith), λ k l. absurd (omega arith))

  pub gathered_more : (j word d : ℕ) → 0 < j → j ≤ length row → d < 2 → ((d ≡ 1) ↔ (level ≤ get_or row (j - 1) 0)) → GatheredFrom row level j word
      → GatheredFrom row level (j - 1) (word * 2 + d)
  gathered_more j word d pos le bit is w = (rw (one, pow-suc 2 m) (digits_lt w.0 bit), go)
    where
      m : ℕ
      m = length row - j

      one : length row - (j - 1) ≡ suc m
      one = omega arith

      go : (k : ℕ) → k < length row - (j - 1) → Bit (word * 2 + d) k ↔ (level ≤ get_or row (j - 1 + k) 0)
      go zero l =
          let u = bit_lowest word d bit in
          let e : j - 1 + 0 ≡ j - 1 = omega arith in
          rw e (λ b. is.0 (u.0 b), λ h. u.1 (is.1 h))
      go (suc k) l =
          let u = bit-above word d bit k in
          let v = w.1 k (omega arith) in
          let e : j - 1 + suc k ≡ j + k = omega arith in
          rw e (λ b. v.0 (u.0 b), λ h. u.1 (v.1 h))

  -- one bit more fits into a word
  pub gathered_fits : (j word : ℕ) → length row ≤ 64 → 0 < j → GatheredFrom row level j word → word * 2 + 1 < 2 ^ 64
  gathered_fits j word few pos w =
      let few_bits : length row - j ≤ 63 = omega arith in
      let most : 2 ^ (length row - j) ≤ 2 ^ 63 = pow_mono few_bits in
      let half : word < 9223372036854775808 = omega (arith, w.0, most) in
      omega (arith, half)

  pub gathered_all : (word : ℕ) → GatheredFrom row level 0 word → Gathered row level word
  gathered_all word w j l = let e : 0 + j ≡ j = omega arith in subst (λ (i : ℕ). Bit word j ↔ (level ≤ get_or row i 0)) e (w.1 j (omega arith))

-- ---- the set of one left term: if A, it keeps the terms of a word, and else it stays

module _ (sets : List ℕ) (i word : ℕ) (h : i < length sets) {A : Type 0} where
  pub narrowed_here : A
      → ((k : ℕ) → ¬ (k ≡ i) → get_or (set sets i (bit_and (get_or sets i 0) word)) k 0 ≡ get_or sets k 0)
      × ((j : ℕ) → Bit (get_or (set sets i (bit_and (get_or sets i 0) word)) i 0) j ↔ (Bit (get_or sets i 0) j × (A → Bit word j)))
  narrowed_here a = (
    λ k m. get_or-set_other sets i k (bit_and (get_or sets i 0) word) 0 m,
    λ j.
        let u = bit-and j (get_or sets i 0) word in
        rw (get_or-set_same sets i (bit_and (get_or sets i 0) word) 0 h) (λ b. let v = u.0 b in (v.0, λ _. v.1), λ v. u.1 (v.0, v.1 a)),
  )

  pub narrowed_nowhere : ¬ A
      → ((k : ℕ) → ¬ (k ≡ i) → get_or sets k 0 ≡ get_or sets k 0) × ((j : ℕ) → Bit (get_or sets i 0) j ↔ (Bit (get_or sets i 0) j × (A → Bit word j)))
  narrowed_nowhere n = (λ k m. refl, λ j. (λ b. (b, λ a. absurd (n a)), λ v. v.0))

-- ---- narrowing the sets of n left terms, one after another: those before i are narrowed, the others are as they were

pub record NarrowedTo (n i : ℕ) (was now : List ℕ) (P : ℕ → ℕ → Type 0) : Type 0 where
  pub done : (k j : ℕ) → k < i → j < n → Bit (get_or now k 0) j ↔ (Bit (get_or was k 0) j × P k j)
  pub rest : (k : ℕ) → i ≤ k → get_or now k 0 ≡ get_or was k 0

module _ (n : ℕ) (was : List ℕ) (P : ℕ → ℕ → Type 0) where
  pub narrowed_none : NarrowedTo n 0 was was P
  narrowed_none = record { done = λ k j h l. absurd (omega arith); rest = λ k h. refl }

  pub narrowed_more : (i : ℕ) (now new : List ℕ) → NarrowedTo n i was now P → ((k : ℕ) → ¬ (k ≡ i) → get_or new k 0 ≡ get_or now k 0)
      → ((j : ℕ) → j < n → Bit (get_or new i 0) j ↔ (Bit (get_or now i 0) j × P i j)) → NarrowedTo n (i + 1) was new P
  narrowed_more i now new w other here = record {
    done = λ k j h l.
        dite (ℕ_discrete k i)
        (λ e. rw e (subst (λ (x : ℕ). Bit (get_or new i 0) j ↔ (Bit x j × P i j)) (w.rest i (omega arith)) (here j l)))
        (λ m. subst (λ (x : ℕ). Bit x j ↔ (Bit (get_or was k 0) j × P k j)) (sym (other k m)) (w.done k j (omega arith) l));
    rest = λ k h. other k (omega arith) ∙ w.rest k (omega arith);
  }

  pub narrowed_all : (now : List ℕ) → NarrowedTo n n was now P → Narrowed n was now P
  narrowed_all now w i j h l = w.done i j h l

-- ---- narrowing twice

module _ (n : ℕ) (was now : List ℕ) (P : ℕ → ℕ → Type 0) where
  -- by what always holds
  pub narrowed_not : ((i j : ℕ) → i < n → j < n → P i j) → was ≡ now → Narrowed n was now P
  narrowed_not always e i j h l = rw e (λ b. (b, always i j h l), λ w. w.0)

  -- by what says the same
  pub narrowed_same : (Q : ℕ → ℕ → Type 0) → ((i j : ℕ) → i < n → j < n → P i j ↔ Q i j) → Narrowed n was now P → Narrowed n was now Q
  narrowed_same Q same w i j h l =
      let u = w i j h l in
      (λ b. let v = u.0 b in (v.0, (same i j h l).0 v.1), λ v. u.1 (v.0, (same i j h l).1 v.1))

  -- and then by Q: by what says both
  pub narrowed_then : (new : List ℕ) (Q R : ℕ → ℕ → Type 0) → ((i j : ℕ) → i < n → j < n → (P i j × Q i j) ↔ R i j)
      → Narrowed n was now P → Narrowed n now new Q → Narrowed n was new R
  narrowed_then new Q R both w v i j h l =
      let a = w i j h l in
      let b = v i j h l in (
        λ c. let d = b.0 c in let e = a.0 d.0 in (e.0, (both i j h l).0 (e.1, d.1)),
        λ c. let d = (both i j h l).1 c.1 in b.1 (a.1 (c.0, d.0), d.1),
      )

-- ---- the levels, from the highest downward: what is asked of left terms graded above one, and at it

pub level_next : (level x y : ℕ) → 0 < level → ((level < x → x ≤ y) × (x ≡ level → level ≤ y)) ↔ (level - 1 < x → x ≤ y)
level_next level x y pos = (
  λ w h. dite (ℕ_discrete x level) (λ e. omega (arith, e, w.1 e)) (λ n. w.0 (omega arith)),
  λ w. (λ h. w (omega arith), λ e. omega (arith, e, w (omega (arith, e)))),
)

pub level_last : (x y : ℕ) → (0 < x → x ≤ y) ↔ (x ≤ y)
level_last x y = (λ w. dite (dec_lt 0 x) w (λ n. omega arith), λ h _. h)

-- ---- what holds below a number, and at it

pub below_next : (P : ℕ → Type 0) (c : ℕ) → (((d : ℕ) → d < c → P d) × P c) ↔ ((d : ℕ) → d < c + 1 → P d)
below_next P c = (λ w. below_more P c w.0 w.1, λ w. (λ d l. w d (omega arith), w c (omega arith)))

-- ---- full sets

-- one more
pub full_more : (sets : List ℕ) (i : ℕ) → i < length sets → ((k : ℕ) → k < i → get_or sets k 0 ≡ 18446744073709551615)
    → (k : ℕ) → k < i + 1 → get_or (set sets i 18446744073709551615) k 0 ≡ 18446744073709551615
full_more sets i h w k l =
    dite (ℕ_discrete k i) (λ e. rw e (get_or-set_same sets i 18446744073709551615 0 h))
    (λ m. get_or-set_other sets i k 18446744073709551615 0 m ∙ w k (omega arith))

-- ---- the sets as bytes, row by row

module _ (n : ℕ) (sets : List ℕ) where
  abbrev set_of : ℕ → List ℕ
  set_of i = set_row n (get_or sets i 0)

  pub sets_none : (d : List ℕ) → d ≡ set_table n sets 0 ++ drop (0 * n) d
  unfolding set_table
  sets_none = fill_none set_of n (λ i. length-table _ n)

  pub sets_more : (i : ℕ) (l d row : List ℕ) → l ≡ set_table n sets i ++ drop (i * n) d → i * n + n ≤ length l
      → row ≡ set_row (length (take (i * n + n - i * n) (drop (i * n) l))) (get_or sets i 0)
      → take (i * n) l ++ (row ++ drop (i * n + n - i * n) (drop (i * n) l)) ≡ set_table n sets (i + 1) ++ drop ((i + 1) * n) d
  unfolding set_table
  sets_more i l d row e h is =
      let width : i * n + n - i * n ≡ n = omega arith in
      let long : length (take n (drop (i * n) l)) ≡ n = length-take-le n (drop (i * n) l) (rw length-drop (omega arith)) in
      fill_more set_of n (λ i. length-table _ n) i l d row e h (is ∙ rw (width, long))
