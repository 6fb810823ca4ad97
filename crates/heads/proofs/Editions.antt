-- Laws of the editions: what each has.
-- Assumes nothing.
use mathlib.Core.Path.{◌≡◌, refl}
use mathlib.Core.Logic.{ite}
use mathlib.Core.List.{List}
use Prim.Native.Nat.{ℕ, ◌≤◌}
use native.Mathlib.Decide.{ℕ_discrete}
use native.Mathlib.Omega.{arith}
use lib.ListN.{length}
use Rattle.heads.specs.Heads.{edition, by_edition, head, Headed}

module _ {A : Type 0} (e : ℕ) (x y : A) where
  pub edition_second : e ≡ 2 → by_edition e x y ≡ x
  unfolding by_edition
  edition_second h = go (ℕ_discrete e 2)
    where
      go : (d : Dec (e ≡ 2)) → ite {C = A} d x y ≡ x
      go (yes _) = refl
      go (no n) = absurd (n h)

  pub edition_other : ¬ (e ≡ 2) → by_edition e x y ≡ y
  unfolding by_edition
  edition_other n = go (ℕ_discrete e 2)
    where
      go : (d : Dec (e ≡ 2)) → ite {C = A} d x y ≡ y
      go (yes h) = absurd (n h)
      go (no _) = refl

module _ (e : ℕ) where
  pub head_second : e ≡ 2 → head e ≡ 22
  head_second = edition_second {A = ℕ} e 22 18

  pub head_other : ¬ (e ≡ 2) → head e ≡ 18
  head_other = edition_other {A = ℕ} e 22 18

  -- a head has the four entries of every edition, and at most one more
  pub head_bounds : (18 ≤ head e) × (head e ≤ 22)
  head_bounds = go (ℕ_discrete e 2)
    where
      go : Dec (e ≡ 2) → (18 ≤ head e) × (head e ≤ 22)
      go (yes h) = (omega (arith, head_second h), omega (arith, head_second h))
      go (no n) = (omega (arith, head_other n), omega (arith, head_other n))

pub long_headed : (b : List ℕ) → head (edition b) ≤ length b → Headed b
long_headed b h = (omega (arith, (head_bounds (edition b)).0), h)
