-- Laws of lists cut into blocks of one width, as a section of a file is into records.
-- Assumes nothing.
use mathlib.Core.Path.{◌≡◌, refl, sym, ap, subst, ◌∙◌}
use mathlib.Core.List.{List, [], ◌∷◌, ◌++◌, flat_map, append_assoc}
use Prim.Native.Nat.{ℕ, zero, suc, ◌+◌, ◌-◌, ◌*◌, ◌/◌, ◌≤◌, ◌<◌}
use native.Mathlib.Nat.{zero-add, add-zero, zero-mul, mul-zero, mul-suc, suc-mul, mul-le-mul_left, mul-le-mul_right, not-suc-le-zero, div-eq_of_eq-mul_right}
use native.Mathlib.Numerals.{add-one}
use native.Mathlib.Omega.{arith}
use lib.ListN.{length, get_or, take, drop, length-take, length-drop, length-append, get_or-append}
use lib.Seq.{length-take-le, take_all, take-add, take-take, take_at, drop_at, drop-drop, get_or-take, get_or-drop, get_or-append-add, ext_get_or}
use borrow.Author.Count.{below_more}
use Rattle.chain.specs.Lists.{table, from}
use Rattle.chain.proofs.Lists.{length-table, get_or-table, flat_map-none, flat_map-more}

-- the n entries from index i on, one by one
pub take-table : {A : Type 0} (d : A) (s : List A) (i n : ℕ) → i + n ≤ length s → take n (drop i s) ≡ table (λ j. get_or s (i + j) d) n
take-table d s i n h =
    let l : length (take n (drop i s)) ≡ n = simp (length-take, length-drop) (omega arith) in
    ext_get_or d _ _ (l ∙ sym (length-table _ n)) (λ j k. let m : j < n = omega arith in rw (get_or-take, get_or-drop, get_or-table))

module _ {A B : Type 0} (f : A → List B) where
  -- where f of each record is its block of s, f of the n records, one after another, is the beginning of s
  pub blocks_front : (w n : ℕ) (r : ℕ → A) (s : List B) → ((i : ℕ) → i < n → f (r i) ≡ take w (drop (w * i) s))
      → flat_map f (table r n) ≡ take (w * n) s
  unfolding flat_map table
  blocks_front w zero r s h = rw (mul-zero w)
  blocks_front w (suc n) r s h =
      let e : (k : ℕ) → w * suc k ≡ w + w * k = λ k. omega (arith, mul-suc w k) in
      let front : f (r zero) ≡ take w s = h zero (omega arith) ∙ rw (mul-zero w) in
      let rest : flat_map f (table (λ i. r (suc i)) n) ≡ take (w * n) (drop w s) =
      blocks_front w n (λ i. r (suc i)) (drop w s) (λ i l. h (suc i) (omega arith) ∙ rw (e i, drop-drop)) in
      rw (e n, take-add, front, rest)

  -- a list of n blocks, each given by its entries: as many records as the length allows are n, and f of them, one after another, is the list
  pub blocks_whole : (w n : ℕ) (d : B) (r : ℕ → A) (s : List B) → 0 < w → length s ≡ w * n
      → ((i : ℕ) → i < length s / w → f (r i) ≡ table (λ j. get_or s (w * i + j) d) w)
      → (flat_map f (table r (length s / w)) ≡ s) × (length (table r (length s / w)) ≡ n)
  blocks_whole w n d r s pos e h =
      let q : length s / w ≡ n = div-eq_of_eq-mul_right pos e in
      let m : w * (length s / w) ≡ length s = rw q (sym e) in (
        blocks_front w (length s / w) r s (λ i l. h i l ∙ sym (take-table d s (w * i) w (omega (arith, mul-suc w i, mul-le-mul_left w l))))
            ∙ take_all (w * (length s / w)) s (omega arith),
        length-table r (length s / w) ∙ q,
      )

-- ---- one block: the w entries from index s on

module _ {A : Type 0} where
  -- by its bounds, as code has them
  pub block_part : (w s : ℕ) (xs : List A) → take (s + w - s) (drop s xs) ≡ take w (drop s xs)
  block_part w s xs = let e : s + w - s ≡ w = omega arith in rw e

  pub length_block : (w s : ℕ) (xs : List A) → s + w ≤ length xs → length (take w (drop s xs)) ≡ w
  length_block w s xs h = length-take-le w (drop s xs) (omega (arith, length-drop s xs))

  -- one that is put behind the first s entries
  module _ (xs block rest : List A) (s : ℕ) (long : s ≤ length xs) where
    pub put-before : take s (take s xs ++ (block ++ rest)) ≡ take s xs
    put-before = take_at (take s xs) (block ++ rest) s (length-take-le s xs long)

    pub put-here : (w : ℕ) → length block ≡ w → take w (drop s (take s xs ++ (block ++ rest))) ≡ block
    put-here w h = ap (take w) (drop_at (take s xs) (block ++ rest) s (length-take-le s xs long)) ∙ take_at block rest w h

  -- it depends on nothing behind it
  block_front : (s w n : ℕ) (xs : List A) → s + w ≤ n → take w (drop s xs) ≡ take w (drop s (take n xs))
  block_front zero w n xs h = sym (take-take w n xs (omega arith))
  block_front (suc s) w zero xs h = absurd (omega arith)
  block_front (suc s) w (suc n) [] h = refl
  block_front (suc s) w (suc n) (x ∷ xs) h = block_front s w n xs (omega arith)

  module _ (w k : ℕ) (old new : List A) (same : take (w * k) new ≡ take (w * k) old) where
    -- so the blocks before number k stay where what lies before it does
    pub block_kept : (j : ℕ) → j < k → take w (drop (w * j) new) ≡ take w (drop (w * j) old)
    block_kept j l =
        let h : w * j + w ≤ w * k = omega (arith, mul-suc w j, mul-le-mul_left w l) in
        block_front (w * j) w (w * k) new h ∙ ap (λ (x : List A). take w (drop (w * j) x)) same ∙ sym (block_front (w * j) w (w * k) old h)

    -- what holds of each block before number k, and of that one, holds of each up to it
    pub each_block_more : (P : ℕ → List A → Type 0) → ((j : ℕ) → j < k → P j (take w (drop (w * j) old))) → P k (take w (drop (w * k) new))
        → (j : ℕ) → j < k + 1 → P j (take w (drop (w * j) new))
    each_block_more P each here = below_more (λ j. P j (take w (drop (w * j) new))) k (λ j l. subst (P j) (sym (block_kept j l)) (each j l)) here

-- block k of n, each of width w, ends within them
pub block_fits : (w k n : ℕ) → k < n → k * w + w ≤ n * w
block_fits w k n h = omega (arith, mul-le-mul_right w h, suc-mul k w)

-- ---- blocks of one width, one after another, given by their number

module _ (f : ℕ → List ℕ) (w : ℕ) (wide : (x : ℕ) → length (f x) ≡ w) where
  pub length_blocks : (a n : ℕ) → length (flat_map f (from a n)) ≡ n * w
  unfolding flat_map from
  length_blocks a zero = sym (zero-mul w)
  length_blocks a (suc n) = omega (arith, length-append (f a) (flat_map f (from (suc a) n)), wide a, length_blocks (suc a) n, suc-mul n w)

  at_blocks : (a n k i : ℕ) → k < n → i < w → get_or (flat_map f (from a n)) (w * k + i) 0 ≡ get_or (f (a + k)) i 0
  unfolding flat_map from
  at_blocks a zero k i h l = absurd (not-suc-le-zero h)
  at_blocks a (suc n) zero i h l =
      let e : w * 0 + i ≡ i = omega (arith, mul-zero w) in
      rw (e, add-zero a) (get_or-append (f a) (flat_map f (from (suc a) n)) 0 i (omega (arith, wide a)))
  at_blocks a (suc n) (suc k) i h l =
      let e : w * suc k + i ≡ length (f a) + (w * k + i) = omega (arith, mul-suc w k, wide a) in
      let g : a + suc k ≡ suc a + k = omega arith in
      rw (e, get_or-append-add (f a) (flat_map f (from (suc a) n)) (w * k + i) 0, g) (at_blocks (suc a) n k i (omega arith) l)

  pub at_rows : (n k i : ℕ) → k < n → i < w → get_or (flat_map f (from 0 n)) (w * k + i) 0 ≡ get_or (f k) i 0
  at_rows n k i h l = at_blocks 0 n k i h l ∙ ap (λ (x : ℕ). get_or (f x) i 0) (zero-add k)

  -- the list that a loop fills with them, from the front
  pub fill_none : (d : List ℕ) → d ≡ flat_map f (from 0 0) ++ drop (0 * w) d
  fill_none d = rw (zero-mul, flat_map-none)

  pub fill_more : (n : ℕ) (l d block : List ℕ) → l ≡ flat_map f (from 0 n) ++ drop (n * w) d → n * w + w ≤ length l → block ≡ f n
      → take (n * w) l ++ (block ++ drop (n * w + w - n * w) (drop (n * w) l)) ≡ flat_map f (from 0 (n + 1)) ++ drop ((n + 1) * w) d
  fill_more n l d block e h is =
      let width : n * w + w - n * w ≡ w = omega arith in
      let more : flat_map f (from 0 (suc n)) ≡ flat_map f (from 0 n) ++ f n = rw zero-add at (flat_map-more f 0 n) in
      rw (
        is,
        width,
        e,
        take_at (flat_map f (from 0 n)) (drop (n * w) d) (n * w) (length_blocks 0 n),
        drop_at (flat_map f (from 0 n)) (drop (n * w) d) (n * w) (length_blocks 0 n),
        drop-drop,
        add-one n,
        more,
        suc-mul n w,
        append_assoc,
      )
