-- The survivors are the largest sound set; and the laws by which any order of elimination reaches them: hold a set that covers them, take
-- members away that do not fit, and be done when the set is sound.
-- Assumes nothing.
use mathlib.Core.Logic.{⊎_elim, ◌↔◌}
use mathlib.Core.List.{List, [], ◌∷◌}
use Prim.Native.Nat.{ℕ, zero, suc, ◌≤◌}
use native.Mathlib.Nat.{not-suc-le-zero, le_of_eq}
use native.Mathlib.Omega.{arith}
use lib.ListN.{length}
use Rattle.chain.specs.Lists.{Mem, Each, each?, keep, Ascending}
use Rattle.chain.proofs.Lists.{each_mem, mem_keep, keep_mem, keep_less, mem_from, from_mem, length_from, ascending_from, ascending_keep}
use Rattle.semantics.specs.Interpretations.{Grading}
use Rattle.semantics.specs.Books.{Rule}
use Rattle.types.specs.Candidates.{candidates}
use Rattle.elimination.specs.Survivors.{Fits, Sound, fits?, settle, survivors, Survives, Covers}

module _ (G : Grading) (rs : List Rule) where
  pub fits_more : (S Q : ℕ → Type 0) → ((c : ℕ) → S c → Q c) → (c : ℕ) → Fits G rs S c → Fits G rs Q c
  fits_more S Q f c h = (h.0, λ i l q r x e. let u = h.1 i l q r x e in (u.0, f u.0 u.1, u.2))

  -- what is left fits: a sweep that takes nothing away ends, and every other makes the list shorter
  settle-fits : (n : ℕ) (xs : List ℕ) → length xs ≤ n → Each (Fits G rs (λ d. Mem d (settle G rs n xs))) (settle G rs n xs)
  unfolding settle
  settle-fits zero [] h = tt
  settle-fits zero (x ∷ xs) h = absurd (not-suc-le-zero h)
  settle-fits (suc n) xs h = go (each? (fits? G rs xs) xs) (settle-fits n (keep (fits? G rs xs) xs))
    where
      Result : List ℕ → Type 0
      Result ys = Each (Fits G rs (λ d. Mem d ys)) ys

      go : (e : Dec (Result xs)) → (length (keep (fits? G rs xs) xs) ≤ n → Result (settle G rs n (keep (fits? G rs xs) xs)))
          → Result (elim e [ yes _ ↦ xs | no _ ↦ settle G rs n (keep (fits? G rs xs) xs) ])
      go (yes f) ih = f
      go (no f) ih = ih (⊎_elim (λ g. absurd (f g)) (λ l. omega arith) (keep_less (fits? G rs xs) xs))

  -- a sound set within the list stays within it
  settle-holds : (S : ℕ → Type 0) → Sound G rs S → (n : ℕ) (xs : List ℕ) → ((c : ℕ) → S c → Mem c xs) → (c : ℕ) → S c → Mem c (settle G rs n xs)
  unfolding settle
  settle-holds S s zero xs h c m = h c m
  settle-holds S s (suc n) xs h c m =
      go (each? (fits? G rs xs) xs)
      (settle-holds S s n (keep (fits? G rs xs) xs) (λ a k. keep_mem (fits? G rs xs) xs a (h a k) (fits_more S (λ d. Mem d xs) h a (s.fits a k))) c m)
    where
      go : (e : Dec (Each (Fits G rs (λ d. Mem d xs)) xs)) → Mem c (settle G rs n (keep (fits? G rs xs) xs))
          → Mem c (elim e [ yes _ ↦ xs | no _ ↦ settle G rs n (keep (fits? G rs xs) xs) ])
      go (yes f) k = h c m
      go (no f) k = k

  settle-part : (n : ℕ) (xs : List ℕ) (b : ℕ) → Ascending b xs → Ascending b (settle G rs n xs) × ((c : ℕ) → Mem c (settle G rs n xs) → Mem c xs)
  unfolding settle
  settle-part zero xs b s = (s, λ c m. m)
  settle-part (suc n) xs b s = go (each? (fits? G rs xs) xs) (settle-part n (keep (fits? G rs xs) xs) b (ascending_keep (fits? G rs xs) b xs s))
    where
      go : (e : Dec (Each (Fits G rs (λ d. Mem d xs)) xs))
          → Ascending b (settle G rs n (keep (fits? G rs xs) xs)) × ((c : ℕ) → Mem c (settle G rs n (keep (fits? G rs xs) xs)) → Mem c (keep (fits? G rs xs) xs))
          → let ys : List ℕ = elim e [ yes _ ↦ xs | no _ ↦ settle G rs n (keep (fits? G rs xs) xs) ] in Ascending b ys × ((c : ℕ) → Mem c ys → Mem c xs)
      go (yes f) k = (s, λ c m. m)
      go (no f) k = (k.0, λ c m. (mem_keep (fits? G rs xs) xs c (k.1 c m)).0)

  -- ---- the largest sound set

  pub survivors_ascending : Ascending 0 (survivors G rs)
  unfolding survivors
  survivors_ascending = (settle-part _ _ 0 (ascending_from 0 (candidates G))).0

  pub survivors_sound : Sound G rs (Survives G rs)
  unfolding survivors
  survivors_sound = record {
    candidate = λ c m. omega (arith, (mem_from 0 (candidates G) c ((settle-part _ _ 0 (ascending_from 0 (candidates G))).1 c m)).1);
    fits = each_mem (Fits G rs (Survives G rs)) (survivors G rs) (settle-fits _ _ (le_of_eq (length_from 0 (candidates G))));
  }

  pub survivors_largest : (S : ℕ → Type 0) → Sound G rs S → (c : ℕ) → S c → Survives G rs c
  unfolding survivors
  survivors_largest S s =
      settle-holds S s _ _ (λ c m. from_mem 0 (candidates G) c (omega arith) (omega (arith, s.candidate c m)))

  -- in whatever order candidates are taken away: a sound set that covers the survivors is theirs
  pub covers_sound : (S : ℕ → Type 0) → Covers G rs S → Sound G rs S → (c : ℕ) → S c ↔ Survives G rs c
  covers_sound S h s c = (survivors_largest S s c, h c)
