-- Laws of numbers in decimal: how they are spelled digit by digit, that they read back, and how long they are.
-- Assumes nothing.
use mathlib.Core.Path.{◌≡◌, refl, sym, ap, ◌∙◌}
use mathlib.Core.Logic.{if_pos, if_neg}
use mathlib.Core.List.{List, [], ◌∷◌, ◌++◌}
use Prim.Native.Nat.{ℕ, zero, suc, ◌+◌, ◌*◌, ◌-◌, ◌/◌, ◌%◌, ◌^◌, ◌≤◌, ◌<◌}
use native.Mathlib.Nat.{not-suc-le-zero, pow-suc}
use native.Mathlib.Decide.{dec_lt}
use native.Mathlib.Omega.{arith}
use lib.ListN.{length, length-append}
use Rattle.printout.specs.Text.{digit_byte, spelled, decimal, value_after}

-- ---- digit by digit

spelled_small : (k n : ℕ) → n < 10 → spelled (suc k) n ≡ digit_byte n ∷ []
unfolding spelled
spelled_small k n h = if_pos (dec_lt n 10) h _ _

spelled_large : (k n : ℕ) → 10 ≤ n → spelled (suc k) n ≡ spelled k (n / 10) ++ (digit_byte (n % 10) ∷ [])
unfolding spelled
spelled_large k n h = if_neg (dec_lt n 10) (λ l. omega arith) _ _

-- more digits than enough change nothing
spelled_enough : (j k n : ℕ) → n < j → n < k → spelled j n ≡ spelled k n
spelled_enough zero k n h l = absurd (not-suc-le-zero h)
spelled_enough (suc j) zero n h l = absurd (not-suc-le-zero l)
spelled_enough (suc j) (suc k) n h l =
    elim (dec_lt n 10) [
      | yes s ↦ spelled_small j n s ∙ sym (spelled_small k n s)
      | no s ↦ spelled_large j n (omega arith)
          ∙ ap (λ (ds : List ℕ). ds ++ (digit_byte (n % 10) ∷ [])) (spelled_enough j k (n / 10) (omega arith) (omega arith))
          ∙ sym (spelled_large k n (omega arith))
    ]

pub decimal_small : (n : ℕ) → n < 10 → decimal n ≡ digit_byte n ∷ []
unfolding decimal
decimal_small n = spelled_small n n

pub decimal_large : (n : ℕ) → 10 ≤ n → decimal n ≡ decimal (n / 10) ++ (digit_byte (n % 10) ∷ [])
unfolding decimal
decimal_large n h =
    spelled_large n n h
    ∙ ap (λ (ds : List ℕ). ds ++ (digit_byte (n % 10) ∷ [])) (spelled_enough n (suc (n / 10)) (n / 10) (omega arith) (omega arith))

-- ---- reading back

value-last : (a : ℕ) (ds : List ℕ) (d : ℕ) → value_after a (ds ++ (d ∷ [])) ≡ 10 * value_after a ds + (d - 48)
unfolding value_after
value-last a [] d = refl
value-last a (x ∷ ds) d = value-last (10 * a + (x - 48)) ds d

value-spelled : (k n : ℕ) → n < k → value_after 0 (spelled k n) ≡ n
unfolding value_after
value-spelled zero n h = absurd (not-suc-le-zero h)
value-spelled (suc k) n h =
    elim (dec_lt n 10) [
      | yes s ↦ rw (spelled_small k n s) (omega arith)
      | no s ↦ rw (spelled_large k n (omega arith), value-last, value-spelled k (n / 10) (omega arith)) (omega arith)
    ]

-- the digits of n stand for n
pub value-decimal : (n : ℕ) → value_after 0 (decimal n) ≡ n
unfolding decimal
value-decimal n = value-spelled (suc n) n (omega arith)

-- ---- how many digits

pub length_small : (n : ℕ) → n < 10 → length (decimal n) ≡ 1
length_small n h = ap length (decimal_small n h)

pub length_large : (n : ℕ) → 10 ≤ n → length (decimal n) ≡ length (decimal (n / 10)) + 1
length_large n h = ap length (decimal_large n h) ∙ length-append (decimal (n / 10)) _

pub decimal_short : (k n : ℕ) → n < 10 ^ suc k → length (decimal n) ≤ suc k
decimal_short zero n h = omega (arith, length_small n (omega (arith, pow-suc 10 0)))
decimal_short (suc k) n h =
    elim (dec_lt n 10) [
      | yes s ↦ omega (arith, length_small n s)
      | no s ↦ omega (arith, length_large n (omega arith), decimal_short k (n / 10) (omega (arith, pow-suc 10 (suc k))))
    ]
