-- Search among the numbers below a bound: whether all pass a test, the first that passes, the greatest that passes, how many pass.
-- Assumes nothing.
use Rattle.std.specs.Prelude.{◌≡◌, ◌⊎◌, ℕ, zero, suc, ◌<◌}
use Rattle.std.proofs.Common.{inl, inr, arith, below_none, below_more}
use Rattle.std.proofs.Math.Logic.{⊎_elim, ite}
use Rattle.std.proofs.Math.Decide.{ℕ_discrete}
use Rattle.chain.specs.Decisions.{dec_and}

module _ {P : ℕ → Type 0} (p : (i : ℕ) → Dec (P i)) where
  -- whether each number below n passes
  unfoldable pub all? : (n : ℕ) → Dec ((i : ℕ) → i < n → P i)
  all? zero = yes (below_none P)
  all? (suc n) = go (all? n) (p n)
    where
      go : Dec ((i : ℕ) → i < n → P i) → Dec (P n) → Dec ((i : ℕ) → i < suc n → P i)
      go (yes f) (yes q) = yes (λ i h. below_more P n f q i (omega arith))
      go (yes f) (no q) = no (λ g. q (g n (omega arith)))
      go (no f) d = no (λ g. f (λ i h. g i (omega arith)))

  -- the first number below n that passes, or that none does: the search's type says what it finds
  abbrev pub First : ℕ → Type 0
  First n = ((i : ℕ) × (i < n) × P i × ((j : ℕ) → j < i → ¬ P j)) ⊎ ((i : ℕ) → i < n → ¬ P i)

  unfoldable pub first : (n : ℕ) → First n
  first zero = inr (below_none (λ i. ¬ P i))
  first (suc n) = go (first n) (p n)
    where
      go : First n → Dec (P n) → First (suc n)
      go (inl w) d = inl (w.0, omega arith, w.2, w.3)
      go (inr f) (yes q) = inl (n, omega arith, q, f)
      go (inr f) (no q) = inr (λ i h. below_more (λ j. ¬ P j) n f q i (omega arith))

  -- the greatest number up to n that passes; 0 if none does
  unfoldable pub greatest : ℕ → ℕ
  greatest zero = zero
  greatest (suc n) = ite (p (suc n)) (suc n) (greatest n)

  -- how many numbers below n pass: the rank of n among those that do
  unfoldable pub rank : ℕ → ℕ
  rank zero = zero
  rank (suc n) = ite (p n) (suc (rank n)) (rank n)

module _ {P : ℕ → Type 0} (p : (i : ℕ) → Dec (P i)) where
  unfoldable pub ranked? : (s i : ℕ) → Dec (P i × (rank p i ≡ s))
  unfolding dec_and
  ranked? s i = dec_and (p i) (ℕ_discrete (rank p i) s)

  -- the number of rank s among those below n that pass; 0 if there is none
  unfoldable pub select : ℕ → ℕ → ℕ
  unfolding ranked?
  select n s = ⊎_elim (λ w. w.0) (λ _. 0) (first (ranked? s) n)
