-- Laws of a decision as a Bool.
-- Assumes nothing.
use mathlib.Core.Path.{◌≡◌, refl}
use mathlib.Core.Bool.{Bool, true, false, not}
use Prim.Native.Nat.{ℕ, ◌≤◌, ◌<◌}
use native.Mathlib.Omega.{arith}
use lib.Dec.{leb, ltb, eqb}
use borrow.Author.Tests.{leb-true, leb-false, ltb-true, ltb-false, eqb-true, eqb-false}
use Rattle.chain.specs.Decisions.{says, Tells}

-- true is not false
pub never : {A : Type 0} → true ≡ false → A
never e = absurd (clash e)
  where
    clash : true ≡ false → ⊥
    clash e = let z : ◌≡◌ {A = ℕ} 0 1 = cc in omega arith

module _ {A : Type 0} (d : Dec A) where
  pub says_yes : A → says d ≡ true
  unfolding says
  says_yes a = go d
    where
      go : (d : Dec A) → says d ≡ true
      go (yes _) = refl
      go (no n) = absurd (n a)

  pub says_no : ¬ A → says d ≡ false
  unfolding says
  says_no n = go d
    where
      go : (d : Dec A) → says d ≡ false
      go (yes a) = absurd (n a)
      go (no _) = refl

  pub says_true : says d ≡ true → A
  unfolding says
  says_true = go d
    where
      go : (d : Dec A) → says d ≡ true → A
      go (yes a) e = a
      go (no n) e = let f : true ≡ false = cc in never f

-- a test that passed, and one that did not
pub tells_yes : {A : Type 0} → A → Tells true A
tells_yes a = (λ _. a, λ e. never e)

pub tells_no : {A : Type 0} → ¬ A → Tells false A
tells_no n = (λ e. let f : true ≡ false = cc in never f, λ _. n)

-- a test of an equivalent fact
pub tells_map : {A B : Type 0} (r : Bool) → (A → B) → (B → A) → Tells r A → Tells r B
tells_map r f g t = (λ e. f (t.0 e), λ e b. t.1 e (g b))

-- ---- tests in code: comparisons, and one test after another

pub tells_le : (a b : ℕ) → Tells (leb a b) (a ≤ b)
tells_le a b = (leb-true a b, λ e h. omega (arith, leb-false a b e))

pub tells_eq : (a b : ℕ) → Tells (eqb a b) (a ≡ b)
tells_eq a b = (eqb-true a b, eqb-false a b)

-- of a number that is equal to the one asked about
pub tells_below : (x a b : ℕ) → x ≡ a → Tells (ltb x b) (a < b)
tells_below x a b e = (λ t. omega (arith, ltb-true x b t), λ t h. omega (arith, ltb-false x b t))

pub tells_at-most : (x a b : ℕ) → x ≡ a → Tells (leb x b) (a ≤ b)
tells_at-most x a b e = (λ t. omega (arith, leb-true x b t), λ t h. omega (arith, leb-false x b t))

-- the first holds, and the second is told
pub tells_then : {A B : Type 0} (r : Bool) → A → Tells r B → Tells r (A × B)
tells_then r a t = (λ e. (a, t.0 e), λ e p. t.1 e p.1)

-- what a call told, where its result was tested: `if f(..)` and `if !f(..)`
pub told_yes : {A : Type 0} (r : Bool) → Tells r A → r ≡ true → A
told_yes r t e = t.0 e

pub told_no : {A : Type 0} (r : Bool) → Tells r A → r ≡ false → ¬ A
told_no r t e = t.1 e
