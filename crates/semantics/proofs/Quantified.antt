-- Laws of the quantified terms as one form.
-- Assumes nothing.
use mathlib.Core.Path.{◌≡◌, refl}
use Prim.Native.Nat.{ℕ}
use native.Mathlib.Omega.{arith}
use Rattle.chain.specs.Connectives.{Quantifier, existential, universal}
use Rattle.semantics.specs.Terms.{some, all}
use Rattle.semantics.specs.Quantified.{quantified}

-- they are alike where they are equal
pub quantified_alike : (k l : Quantifier) (r t x y : ℕ) → quantified k r x ≡ quantified l t y → (k ≡ l) × (r ≡ t) × (x ≡ y)
quantified_alike existential existential r t x y e = (refl, some-role r t x y e, some-child r t x y e)
  where
    some-role : (r t x y : ℕ) → some r x ≡ some t y → r ≡ t
    some-role r t x y e = cc

    some-child : (r t x y : ℕ) → some r x ≡ some t y → x ≡ y
    some-child r t x y e = cc
quantified_alike universal universal r t x y e = (refl, all-role r t x y e, all-child r t x y e)
  where
    all-role : (r t x y : ℕ) → all r x ≡ all t y → r ≡ t
    all-role r t x y e = cc

    all-child : (r t x y : ℕ) → all r x ≡ all t y → x ≡ y
    all-child r t x y e = cc
quantified_alike existential universal r t x y e = let z : ◌≡◌ {A = ℕ} 0 1 = cc in absurd (omega arith)
quantified_alike universal existential r t x y e = let z : ◌≡◌ {A = ℕ} 0 1 = cc in absurd (omega arith)
