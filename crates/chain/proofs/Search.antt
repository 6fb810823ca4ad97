-- Laws of bounded search: the greatest number that passes, ranks and selection by rank, and strong induction.
-- Assumes nothing.
use mathlib.Core.Path.{◌≡◌, refl, sym, ap, subst, ◌∙◌}
use mathlib.Core.Logic.{◌⊎◌, inl, inr, ⊎_elim, ite, dite, if_neg, ◌↔◌}
use Prim.Native.Nat.{ℕ, zero, suc, ◌-◌, ◌≤◌, ◌<◌}
use native.Mathlib.Nat.{not-suc-le-zero, eq-or-lt_of_le}
use native.Mathlib.Omega.{arith}
use borrow.Author.Count.{below_none, below_more}
use Rattle.chain.specs.Search.{First, first, greatest, rank, ranked?, select}

-- below n + 1 is n, or below n
pub below_cases : (n i : ℕ) → i < suc n → (i ≡ n) ⊎ (i < n)
below_cases n i h = eq-or-lt_of_le {n = i} {m = n} (omega arith)

-- strong induction
pub strong : (P : ℕ → Type 0) → ((i : ℕ) → ((j : ℕ) → j < i → P j) → P i) → (i : ℕ) → P i
strong P step i = step i (go i)
  where
    go : (n j : ℕ) → j < n → P j
    go zero = below_none P
    go (suc n) = λ j h. below_more P n (go n) (step n (go n)) j (omega arith)

-- ---- the greatest that passes

module _ {P : ℕ → Type 0} (p : (i : ℕ) → Dec (P i)) where
  pub greatest_le : (n : ℕ) → greatest p n ≤ n
  unfolding greatest
  greatest_le zero = omega arith
  greatest_le (suc n) = go (p (suc n)) (greatest_le n)
    where
      go : (d : Dec (P (suc n))) → greatest p n ≤ n → ite d (suc n) (greatest p n) ≤ suc n
      go (yes _) h = omega arith
      go (no _) h = omega arith

  pub greatest-passes : P 0 → (n : ℕ) → P (greatest p n)
  unfolding greatest
  greatest-passes z zero = z
  greatest-passes z (suc n) = go (p (suc n)) (greatest-passes z n)
    where
      go : (d : Dec (P (suc n))) → P (greatest p n) → P (ite d (suc n) (greatest p n))
      go (yes q) h = q
      go (no _) h = h

  pub greatest-most : (n r : ℕ) → r ≤ n → P r → r ≤ greatest p n
  unfolding greatest
  greatest-most zero r h q = h
  greatest-most (suc n) r h q = go (p (suc n)) (greatest-most n r)
    where
      go : (d : Dec (P (suc n))) → (r ≤ n → P r → r ≤ greatest p n) → r ≤ ite d (suc n) (greatest p n)
      go (yes _) f = h
      go (no m) f = ⊎_elim (λ e. absurd (m (subst P e q))) (λ l. f (omega arith) q) (below_cases (suc n) r (omega arith))

  -- as a search downward finds it
  pub greatest_yes : (n : ℕ) → P n → greatest p n ≡ n
  greatest_yes n q = omega (arith, greatest_le n, greatest-most n n (omega arith) q)

  pub greatest_no : (n : ℕ) → 0 < n → ¬ P n → greatest p n ≡ greatest p (n - 1)
  unfolding greatest
  greatest_no zero h q = absurd (not-suc-le-zero h)
  greatest_no (suc n) h q = let e : suc n - 1 ≡ n = omega arith in rw e (if_neg (p (suc n)) q (suc n) (greatest p n))

  -- ---- ranks

  rank_step : (n : ℕ) → (rank p n ≤ rank p (suc n)) × (P n → rank p (suc n) ≡ suc (rank p n))
  unfolding rank
  rank_step n = go (p n)
    where
      go : (d : Dec (P n)) → (rank p n ≤ ite d (suc (rank p n)) (rank p n)) × (P n → ite d (suc (rank p n)) (rank p n) ≡ suc (rank p n))
      go (yes _) = (omega arith, λ _. refl)
      go (no m) = (omega arith, λ q. absurd (m q))

  pub rank-none : rank p 0 ≡ 0
  unfolding rank
  rank-none = refl

  pub rank_yes : (n : ℕ) → P n → rank p (suc n) ≡ suc (rank p n)
  rank_yes n h = (rank_step n).1 h

  pub rank_no : (n : ℕ) → ¬ P n → rank p (suc n) ≡ rank p n
  unfolding rank
  rank_no n h = if_neg (p n) h (suc (rank p n)) (rank p n)

  pub rank_mono : (m n : ℕ) → m ≤ n → rank p m ≤ rank p n
  rank_mono m zero h = let e : m ≡ 0 = omega arith in rw e (omega arith)
  rank_mono m (suc n) h =
      ⊎_elim (λ e. rw e (omega arith)) (λ l. go (rank_mono m n (omega arith))) (below_cases (suc n) m (omega arith))
    where
      go : rank p m ≤ rank p n → rank p m ≤ rank p (suc n)
      go g = omega (arith, (rank_step n).0)

  -- the ranks of those that pass: each is below the count, no two share one, and each number below the count is one
  pub rank_lt : (m n : ℕ) → m < n → P m → rank p m < rank p n
  rank_lt m n h q = omega (arith, rank_mono (suc m) n h, (rank_step m).1 q)

  pub rank_inj : (i j : ℕ) → P i → P j → rank p i ≡ rank p j → i ≡ j
  rank_inj i j a b e =
      let m : ¬ (i < j) = λ l. omega (arith, rank_lt i j l a) in
      let n : ¬ (j < i) = λ l. omega (arith, rank_lt j i l b) in
      omega arith

  pub rank-onto : (n s : ℕ) → s < rank p n → (i : ℕ) × (i < n) × P i × (rank p i ≡ s)
  unfolding rank
  rank-onto zero s h = absurd (not-suc-le-zero h)
  rank-onto (suc n) s h = go (p n) (rank-onto n s) h
    where
      go : (d : Dec (P n)) → (s < rank p n → (i : ℕ) × (i < n) × P i × (rank p i ≡ s)) → s < ite d (suc (rank p n)) (rank p n)
          → (i : ℕ) × (i < suc n) × P i × (rank p i ≡ s)
      go (yes q) f l = ⊎_elim (λ e. (n, omega arith, q, sym e)) (λ k. let w = f k in (w.0, omega arith, w.2, w.3)) (below_cases (rank p n) s l)
      go (no m) f l = let w = f l in (w.0, omega arith, w.2, w.3)

  -- ---- selection by rank

  pub select-rank : (n i : ℕ) → i < n → P i → select p n (rank p i) ≡ i
  unfolding select
  select-rank n i h q = go (first (ranked? p (rank p i)) n)
    where
      go : (w : First (ranked? p (rank p i)) n) → ⊎_elim (λ u. u.0) (λ _. 0) w ≡ i
      go (inl w) = rank_inj w.0 i w.2.0 q w.2.1
      go (inr f) = absurd (f i h (q, refl))

  pub select_lt : (n s : ℕ) → s < rank p n → select p n s < n
  select_lt n s h = let w = rank-onto n s h in rw (← w.3, select-rank n w.0 w.1 w.2) w.1

-- tests of equal facts give equal ranks
pub rank_same : {P Q : ℕ → Type 0} (p : (i : ℕ) → Dec (P i)) (q : (i : ℕ) → Dec (Q i)) (n : ℕ) → ((i : ℕ) → i < n → P i ↔ Q i) → rank p n ≡ rank q n
unfolding rank
rank_same p q zero h = refl
rank_same {P} {Q} p q (suc n) h = go (p n) (q n) (rank_same p q n (λ i l. h i (omega arith)))
  where
    go : (d : Dec (P n)) (e : Dec (Q n)) → rank p n ≡ rank q n → ite d (suc (rank p n)) (rank p n) ≡ ite e (suc (rank q n)) (rank q n)
    go (yes _) (yes _) f = ap suc f
    go (yes a) (no m) f = absurd (m ((h n (omega arith)).0 a))
    go (no m) (yes b) f = absurd (m ((h n (omega arith)).1 b))
    go (no _) (no _) f = f

pub none_pass : {P : ℕ → Type 0} (p : (i : ℕ) → Dec (P i)) (n : ℕ) → ((i : ℕ) → ¬ P i) → rank p n ≡ 0
none_pass p zero none = rank-none p
none_pass p (suc n) none = rank_no p n (none n) ∙ none_pass p n none

-- one number more passes
pub rank_one_more : {P Q : ℕ → Type 0} (p : (i : ℕ) → Dec (P i)) (q : (i : ℕ) → Dec (Q i)) (x : ℕ) → ¬ P x → Q x → ((i : ℕ) → ¬ (i ≡ x) → P i ↔ Q i)
    → (n : ℕ) → x < n → rank q n ≡ suc (rank p n)
rank_one_more p q x fails passes same zero l = absurd (omega arith)
rank_one_more p q x fails passes same (suc n) l = ⊎_elim here (λ g. before g (rank_one_more p q x fails passes same n g)) (below_cases n x l)
  where
    here : x ≡ n → rank q (suc n) ≡ suc (rank p (suc n))
    here e =
        rank_yes q n (rw (← e) passes) ∙ ap suc (sym (rank_same p q n (λ i g. same i (λ z. omega arith))) ∙ sym (rank_no p n (rw (← e) fails)))

    before : x < n → rank q n ≡ suc (rank p n) → rank q (suc n) ≡ suc (rank p (suc n))
    before g f =
        let u = same n (λ z. omega arith) in
        dite (p n) (λ a. rank_yes q n (u.0 a) ∙ ap suc (f ∙ sym (rank_yes p n a))) (λ m. rank_no q n (λ b. m (u.1 b)) ∙ f ∙ ap suc (sym (rank_no p n m)))
