-- Laws of listing: the marked candidates, one number more at a time, and where a search for a number ends.
-- Assumes nothing.
use mathlib.Core.Path.{◌≡◌, refl, ap, ◌∙◌}
use mathlib.Core.Logic.{inl, inr, ⊎_elim, ite}
use mathlib.Core.List.{List, [], ◌∷◌, ◌++◌, append-nil}
use Prim.Native.Nat.{ℕ, zero, suc, ◌+◌, ◌≤◌, ◌<◌}
use native.Mathlib.Nat.{add-zero}
use native.Mathlib.Decide.{ℕ_discrete}
use native.Mathlib.Numerals.{add-one}
use native.Mathlib.Omega.{arith}
use lib.ListN.{length, get_or, set, length-append}
use lib.Seq.{take-suc-set}
use Rattle.std.specs.declared.option.Option.{Option}
use Rattle.std.specs.declared.option.Option.TheVariants.{None, Some}
use Rattle.chain.specs.Search.{First, first}
use Rattle.chain.specs.Lists.{keep, from, index}
use Rattle.chain.proofs.Search.{below_cases}
use Rattle.elimination.specs.Marks.{Marked, marked?, marked}
use Rattle.models.specs.Listing.{Lists}

-- ---- the members that pass, with one number more at the end

from_more : (a n : ℕ) → from a (suc n) ≡ from a n ++ ((a + n) ∷ [])
unfolding from
from_more a zero = rw (add-zero a)
from_more a (suc n) =
    let e : a + suc n ≡ suc a + n = omega arith in
    rw e (ap {B = List ℕ} (λ xs. a ∷ xs) (from_more (suc a) n))

module _ {P : ℕ → Type 0} (p : (x : ℕ) → Dec (P x)) where
  keep_append : (xs ys : List ℕ) → keep p (xs ++ ys) ≡ keep p xs ++ keep p ys
  unfolding keep
  keep_append [] ys = refl
  keep_append (x ∷ xs) ys = go (p x) (keep_append xs ys)
    where
      go : (d : Dec (P x)) → keep p (xs ++ ys) ≡ keep p xs ++ keep p ys
          → ite {C = List ℕ} d (x ∷ keep p (xs ++ ys)) (keep p (xs ++ ys)) ≡ ite {C = List ℕ} d (x ∷ keep p xs) (keep p xs) ++ keep p ys
      go (yes _) e = ap {B = List ℕ} (λ zs. x ∷ zs) e
      go (no _) e = e

  keep_yes : (x : ℕ) → P x → keep p (x ∷ []) ≡ x ∷ []
  unfolding keep
  keep_yes x h = go (p x)
    where
      go : (d : Dec (P x)) → ite {C = List ℕ} d (x ∷ []) [] ≡ x ∷ []
      go (yes _) = refl
      go (no n) = absurd (n h)

  keep_no : (x : ℕ) → ¬ P x → keep p (x ∷ []) ≡ []
  unfolding keep
  keep_no x n = go (p x)
    where
      go : (d : Dec (P x)) → ite {C = List ℕ} d (x ∷ []) [] ≡ []
      go (yes h) = absurd (n h)
      go (no _) = refl

-- ---- the marked candidates

module _ (marks : List ℕ) where
  marked_more : (c : ℕ) → marked marks (c + 1) ≡ marked marks c ++ keep (marked? marks) (c ∷ [])
  unfolding marked
  marked_more c =
      let e : from 0 (c + 1) ≡ from 0 c ++ (c ∷ []) = rw (add-one c) (from_more 0 c ∙ ap (λ (x : ℕ). from 0 c ++ (x ∷ [])) (omega arith)) in
      rw e (keep_append (marked? marks) (from 0 c) (c ∷ []))

  pub marked_yes : (c : ℕ) → Marked marks c → marked marks (c + 1) ≡ marked marks c ++ (c ∷ [])
  marked_yes c h = marked_more c ∙ ap (λ (xs : List ℕ). marked marks c ++ xs) (keep_yes (marked? marks) c h)

  pub marked_no : (c : ℕ) → ¬ Marked marks c → marked marks (c + 1) ≡ marked marks c
  marked_no c n = marked_more c ∙ ap (λ (xs : List ℕ). marked marks c ++ xs) (keep_no (marked? marks) c n) ∙ append-nil (marked marks c)

  -- more candidates, no fewer marked
  pub marked_mono : (m n : ℕ) → m ≤ n → length (marked marks m) ≤ length (marked marks n)
  marked_mono m zero h = let e : m ≡ 0 = omega arith in rw e (omega arith)
  marked_mono m (suc n) h =
      ⊎_elim (λ e. rw e (omega arith)) (λ l. step (marked_mono m n (omega arith))) (below_cases (suc n) m (omega arith))
    where
      step : length (marked marks m) ≤ length (marked marks n) → length (marked marks m) ≤ length (marked marks (suc n))
      step g =
          omega (arith, ap length (rw (add-one n) at (marked_more n)), length-append (marked marks n) (keep (marked? marks) (n ∷ [])))

  -- and no more than there are
  marked-few : (n : ℕ) → length (marked marks n) ≤ n
  unfolding marked keep from
  marked-few zero = omega arith
  marked-few (suc n) =
      omega (arith, marked-few n, ap length (rw (add-one n) at (marked_more n)), length-append (marked marks n) (keep (marked? marks) (n ∷ [])), one (marked? marks n))
    where
      one : (d : Dec (Marked marks n)) → length (ite {C = List ℕ} d (n ∷ []) []) ≤ 1
      one (yes _) = omega arith
      one (no _) = omega arith

  -- ---- as a loop lists them: none yet, one more, and one passed over

  pub lists-none : (xs : List ℕ) → Lists marks 0 0 xs
  unfolding marked keep from
  lists-none xs = (refl, refl)

  pub lists-more : (c k : ℕ) (xs : List ℕ) → k < length xs → Marked marks c → Lists marks c k xs → Lists marks (c + 1) (k + 1) (set xs k c)
  lists-more c k xs h m (e, f) =
      rw (marked_yes c m) (omega (arith, length-append (marked marks c) (c ∷ [])), rw (add-one k, take-suc-set xs k c h, f))

  pub lists-same : (c k : ℕ) (xs : List ℕ) → ¬ Marked marks c → Lists marks c k xs → Lists marks (c + 1) k xs
  lists-same c k xs n l = rw (marked_no c n) l

  pub lists-few : (c k : ℕ) (xs : List ℕ) → Lists marks c k xs → k ≤ c
  lists-few c k xs (e, f) = omega (arith, marked-few c)

  -- there is room for the one more
  pub lists-room : (c k : ℕ) (xs : List ℕ) → Marked marks c → Lists marks c k xs → length (marked marks (c + 1)) ≤ length xs → k < length xs
  lists-room c k xs m (e, f) h = omega (arith, ap length (marked_yes c m), length-append (marked marks c) (c ∷ []))

-- ---- a search that code makes from the front: what is found at its first place, and what else

module _ {P : ℕ → Type 0} (p : (i : ℕ) → Dec (P i)) (n : ℕ) (g : ℕ → ℕ) (z : ℕ) where
  pub first_found : (w : First p n) (i : ℕ) → i < n → P i → ((j : ℕ) → j < i → ¬ P j) → g i ≡ ⊎_elim (λ u. g u.0) (λ _. z) w
  first_found (inl u) i l h before =
      let m : ¬ (u.0 < i) = λ k. before u.0 k u.2 in
      let o : ¬ (i < u.0) = λ k. u.3 i k h in
      ap g (omega arith)
  first_found (inr f) i l h before = absurd (f i l h)

  pub first_missed : (w : First p n) → ((i : ℕ) → i < n → ¬ P i) → z ≡ ⊎_elim (λ u. g u.0) (λ _. z) w
  first_missed (inl u) h = absurd (h u.0 u.1 u.2)
  first_missed (inr f) h = refl

module _ (xs : List ℕ) (x : ℕ) where
  pub index-found : (k : ℕ) → k < length xs → get_or xs k 0 ≡ x → ((j : ℕ) → j < k → ¬ (get_or xs j 0 ≡ x)) → k ≡ index xs x
  unfolding index
  index-found k l e before = first_found (λ i. ℕ_discrete (get_or xs i 0) x) (length xs) (λ i. i) 0 (first (λ i. ℕ_discrete (get_or xs i 0) x) (length xs)) k l e before

  pub index_missed : ((k : ℕ) → k < length xs → ¬ (get_or xs k 0 ≡ x)) → 0 ≡ index xs x
  unfolding index
  index_missed h = first_missed (λ i. ℕ_discrete (get_or xs i 0) x) (length xs) (λ i. i) 0 (first (λ i. ℕ_discrete (get_or xs i 0) x) (length xs)) h

-- by cases on an option
pub each_option : {A X : Type 0} (r : Option A) → (r ≡ None → X) → ((x : A) → r ≡ Some x → X) → X
each_option None n s = n refl
each_option (Some x) n s = s x refl
