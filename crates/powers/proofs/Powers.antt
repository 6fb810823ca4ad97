-- Laws of powers, for every base: the power of one, one factor more, and where powers pass the limit.
-- Assumes nothing.
use mathlib.Core.Path.{◌≡◌, sym, ap, ◌∙◌}
use mathlib.Core.Logic.{◌⊎◌, ⊎_elim, dite}
use Prim.Native.Nat.{ℕ, zero, suc, ◌+◌, ◌*◌, ◌^◌, ◌≤◌, ◌<◌}
use native.Mathlib.Nat.{pow-zero, pow-suc, one-mul, pow-le-pow_left, pow-le-pow_right}
use native.Mathlib.Numerals.{add-one}
use native.Mathlib.Decide.{dec_le}
use native.Mathlib.Omega.{arith}

-- no factors give 1, and so do factors that are 1
pub power_one : (b k : ℕ) → (k ≡ 0) ⊎ (b ≡ 1) → b ^ k ≡ 1
power_one b k =
    ⊎_elim (λ none. ap (λ (i : ℕ). b ^ i) none ∙ pow-zero b) (λ one. ap (λ (a : ℕ). a ^ k) one ∙ ones k)
  where
    ones : (i : ℕ) → 1 ^ i ≡ 1
    ones zero = pow-zero 1
    ones (suc i) = omega (arith, pow-suc 1 i, ones i)

pub power_first : (b : ℕ) → b ^ 1 ≡ b
power_first b = pow-suc b 0 ∙ ap (λ (p : ℕ). p * b) (pow-zero b) ∙ one-mul b

pub power_more : (b k p : ℕ) → p ≡ b ^ k → p * b ≡ b ^ (k + 1)
power_more b k p e = ap (λ (q : ℕ). q * b) e ∙ sym (pow-suc b k) ∙ ap (λ (i : ℕ). b ^ i) (sym (add-one k))

-- what has passed a limit stays past it
pub power_stays : (m b i k : ℕ) → 1 ≤ b → i ≤ k → m < b ^ i → m < b ^ k
power_stays m b i k h g p = omega (arith, pow-le-pow_right {n = b} (omega arith) g)

-- 2 ^ 15 is 32768, so from 15 places on no power of 2 or more is within the limit
pub power_few : (b k : ℕ) → 2 ≤ b → b ^ k ≤ 16384 → k < 15
power_few b k h g =
    dite (dec_le 15 k) (λ l. omega (arith, pow-le-pow_right {n = 2} (omega arith) l, pow-le-pow_left h k)) (λ l. omega arith)
