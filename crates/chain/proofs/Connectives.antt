-- Laws of the connectives: the base instance is lawful; what a quantifier takes through a link; the greatest or least over the elements.
-- Each law on quantifiers is shown once, for both directions.
-- Assumes nothing.
use mathlib.Core.Path.{◌≡◌, refl, sym, ap₂, ◌∙◌}
use mathlib.Core.Logic.{◌⊎◌, inl, inr, ⊎_elim, dite}
use Prim.Native.Nat.{ℕ, zero, suc, ◌+◌, ◌≤◌, ◌<◌}
use native.Mathlib.Nat.{not-suc-le-zero}
use native.Mathlib.Numerals.{add-one}
use native.Mathlib.Omega.{arith}
use borrow.Author.Count.{below_more}
use Rattle.chain.specs.Connectives.{Connectives, Lawful, zadeh, Quantifier, existential, universal, through, Within, within?, neutral, join, over}

pub zadeh-lawful : (N : ℕ) → Lawful N (zadeh N)
zadeh-lawful N = record {
  negation_le = λ x h. omega arith;
  conjunction_le = λ x y h g. omega arith;
  disjunction_le = λ x y h g. omega arith;
  implication_le = λ x y h g. omega arith;
  conjunction_mono = λ r s x h g l. omega arith;
  implication_anti = λ r s x h g l. omega arith;
  conjunction_zero = λ x h. omega arith;
  implication_zero = λ x h. omega arith;
}

-- ---- through a link

module _ (N : ℕ) (L : Connectives) (w : Lawful N L) where
  pub through_le : (q : Quantifier) (r x : ℕ) → r ≤ N → x ≤ N → through L q r x ≤ N
  through_le existential = w.conjunction_le
  through_le universal = w.implication_le

  -- a stronger link takes no less, in the quantifier's direction
  pub through_mono : (q : Quantifier) (r s x : ℕ) → r ≤ s → s ≤ N → x ≤ N → Within q (through L q r x) (through L q s x)
  through_mono existential = w.conjunction_mono
  through_mono universal = w.implication_anti

  -- no link takes nothing
  pub through_zero : (q : Quantifier) (x : ℕ) → x ≤ N → through L q 0 x ≡ neutral q N
  through_zero existential = w.conjunction_zero
  through_zero universal = w.implication_zero

-- ---- the two directions

pub within_refl : (q : Quantifier) (x : ℕ) → Within q x x
within_refl existential x = omega arith
within_refl universal x = omega arith

pub within_trans : (q : Quantifier) (x y z : ℕ) → Within q x y → Within q y z → Within q x z
within_trans existential x y z h g = omega arith
within_trans universal x y z h g = omega arith

pub within_antisymm : (q : Quantifier) {x y : ℕ} → Within q x y → Within q y x → x ≡ y
within_antisymm existential h g = omega arith
within_antisymm universal h g = omega arith

pub neutral-within : (q : Quantifier) (N x : ℕ) → x ≤ N → Within q (neutral q N) x
neutral-within existential N x h = omega arith
neutral-within universal N x h = h

pub neutral_le : (q : Quantifier) (N : ℕ) → neutral q N ≤ N
neutral_le existential N = omega arith
neutral_le universal N = omega arith

join-left : (q : Quantifier) (x y : ℕ) → Within q x (join q x y)
join-left existential x y = omega arith
join-left universal x y = omega arith

join-right : (q : Quantifier) (x y : ℕ) → Within q y (join q x y)
join-right existential x y = omega arith
join-right universal x y = omega arith

join_least : (q : Quantifier) (x y b : ℕ) → Within q x b → Within q y b → Within q (join q x y) b
join_least existential x y b h g = omega arith
join_least universal x y b h g = omega arith

join_le : (q : Quantifier) (N x y : ℕ) → x ≤ N → y ≤ N → join q x y ≤ N
join_le existential N x y h g = omega arith
join_le universal N x y h g = omega arith

join_which : (q : Quantifier) (x y : ℕ) → (join q x y ≡ x) ⊎ (join q x y ≡ y)
join_which q x y = dite (within? q x y) (λ h. inr (second q h)) (λ n. inl (first_of q n))
  where
    second : (k : Quantifier) → Within k x y → join k x y ≡ y
    second existential h = omega arith
    second universal h = omega arith

    first_of : (k : Quantifier) → ¬ Within k x y → join k x y ≡ x
    first_of existential n = omega arith
    first_of universal n = omega arith

-- ---- over the elements: a bound of every value, the least such bound, and one of the values

module _ (q : Quantifier) (N : ℕ) (f : ℕ → ℕ) where
  -- over nothing, and over one element more, at the end, as a loop meets it
  pub over_none : neutral q N ≡ over q N f 0
  unfolding over
  over_none = refl

  pub over-more : (n : ℕ) → join q (over q N f n) (f n) ≡ over q N f (n + 1)
  unfolding over
  over-more n = rw (add-one n)

  pub over-upper : (n i : ℕ) → i < n → Within q (f i) (over q N f n)
  unfolding over
  over-upper zero i h = absurd (not-suc-le-zero h)
  over-upper (suc n) i h =
      below_more (λ j. Within q (f j) (over q N f (suc n))) n
      (λ j l. within_trans q _ _ _ (over-upper n j l) (join-left q (over q N f n) (f n)))
      (join-right q (over q N f n) (f n)) i (omega arith)

  pub over_least : (n b : ℕ) → b ≤ N → ((i : ℕ) → i < n → Within q (f i) b) → Within q (over q N f n) b
  unfolding over
  over_least zero b l h = neutral-within q N b l
  over_least (suc n) b l h =
      join_least q (over q N f n) (f n) b (over_least n b l (λ i g. h i (omega arith))) (h n (omega arith))

  pub over_attained : (n : ℕ) → 0 < n → ((i : ℕ) → i < n → f i ≤ N) → (i : ℕ) × (i < n) × (f i ≡ over q N f n)
  unfolding over
  over_attained zero p h = absurd (not-suc-le-zero p)
  over_attained (suc zero) p h = (
    0,
    p,
    within_antisymm q (join-right q (neutral q N) (f 0))
        (join_least q (neutral q N) (f 0) (f 0) (neutral-within q N (f 0) (h 0 p)) (within_refl q (f 0))),
  )
  over_attained (suc (suc n)) p h =
      let w = over_attained (suc n) (omega arith) (λ i g. h i (omega arith)) in
      ⊎_elim (λ e. (w.0, omega arith, w.2 ∙ sym e)) (λ e. (suc n, omega arith, sym e))
      (join_which q (over q N f (suc n)) (f (suc n)))

  pub over_le : (n : ℕ) → ((i : ℕ) → i < n → f i ≤ N) → over q N f n ≤ N
  unfolding over
  over_le zero h = neutral_le q N
  over_le (suc n) h = join_le q N (over q N f n) (f n) (over_le n (λ i g. h i (omega arith))) (h n (omega arith))

pub over-same : (q : Quantifier) (N : ℕ) (f g : ℕ → ℕ) (n : ℕ) → ((i : ℕ) → i < n → f i ≡ g i) → over q N f n ≡ over q N g n
unfolding over
over-same q N f g zero h = refl
over-same q N f g (suc n) h = ap₂ (join q) (over-same q N f g n (λ i l. h i (omega arith))) (h n (omega arith))
