-- Laws of counting: the highest of what a closure counts is the highest of the list.
-- Assumes nothing.
use mathlib.Core.Path.{◌≡◌, refl, ap}
use Prim.Native.Nat.{ℕ, zero, suc, max}
use Rattle.chain.specs.Lists.{highest, table}

pub highest_over : {A : Type 0} (f : A → ℕ) (g : ℕ → A) (n : ℕ) → highest (λ x. x) (table (λ i. f (g i)) n) ≡ highest f (table g n)
unfolding highest table
highest_over f g zero = refl
highest_over f g (suc n) = ap (max (f (g zero))) (highest_over f (λ i. g (suc i)) n)
