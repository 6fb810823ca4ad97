-- Laws of the bits of a byte, and of a word.
-- Assumes nothing.
use mathlib.Core.Path.{◌≡◌, refl, sym, ap, ◌∙◌}
use mathlib.Core.Logic.{◌↔◌}
use mathlib.Core.List.{[]}
use Prim.Native.Nat.{ℕ, zero, suc, ◌+◌, ◌-◌, ◌*◌, ◌/◌, ◌%◌, ◌^◌, ◌<◌, min}
use native.Mathlib.Nat.{pow-suc, mul_comm, div-one, div-div-eq-div-mul}
use native.Mathlib.Decide.{ℕ_discrete, dec_lt}
use native.Mathlib.Omega.{arith}
use lib.Arith.{digits_div, digits_mod}
use lib.Bits.{bit_and, and_step}
use lib.Count.{count_leading_zeros}
use Rattle.chain.specs.Decisions.{says}
use Rattle.chain.specs.Search.{all?}
use Rattle.chain.specs.Lists.{Mem, Ascending, highest, from}
use Rattle.chain.proofs.Decisions.{says_true}
use Rattle.chain.proofs.Lists.{mem_keep, keep_mem, mem_from, from_mem, ascending_from, ascending_keep}
use Rattle.encoding.specs.Bits.{Bit, bit?, bits_of, byte_of}

module _ (x : ℕ) where
  pub bits_mem : (i : ℕ) → Mem i (bits_of x) ↔ ((i < 8) × Bit x i)
  unfolding bits_of
  bits_mem i = (
    λ m. let w = mem_keep (bit? x) (from 0 8) i m in ((mem_from 0 8 i w.0).1, w.1),
    λ h. keep_mem (bit? x) (from 0 8) i (from_mem 0 8 i (omega arith) h.0) h.1,
  )

  pub bits_ascending : Ascending 0 (bits_of x)
  unfolding bits_of
  bits_ascending = ascending_keep (bit? x) 0 (from 0 8) (ascending_from 0 8)

-- 0 has none
pub no_bits : bits_of 0 ≡ []
unfolding bits_of
no_bits = refl

-- a byte is the byte of its bits: one test of all bytes
pub byte_of_bits : (x : ℕ) → x < 256 → byte_of (bits_of x) ≡ x
unfolding all? says ℕ_discrete byte_of bits_of
byte_of_bits = says_true (all? (λ x. ℕ_discrete (byte_of (bits_of x)) x) 256) refl

-- a byte's leading zeros stand above its highest bit: one test of all bytes
pub leading-highest : (x : ℕ) → x < 256 → 8 - count_leading_zeros 8 x ≡ highest suc (bits_of x)
unfolding all? says ℕ_discrete highest bits_of count_leading_zeros
leading-highest = says_true (all? (λ x. ℕ_discrete (8 - count_leading_zeros 8 x) (highest suc (bits_of x))) 256) refl

-- ---- of any number, by its lowest bit and the rest

-- a number's lower bits are its remainder, and its higher ones those of the half
half_bit : (x i : ℕ) → x / 2 ^ suc i % 2 ≡ x / 2 / 2 ^ i % 2
half_bit x i = ap (λ (y : ℕ). y % 2) (rw (pow-suc 2 i, mul_comm (2 ^ i) 2) (sym (div-div-eq-div-mul x 2 (2 ^ i))))

-- one bit more below
module _ (x d : ℕ) (h : d < 2) where
  pub bit_lowest : Bit (x * 2 + d) 0 ↔ (d ≡ 1)
  bit_lowest = let e : (x * 2 + d) / 2 ^ 0 % 2 ≡ d = ap (λ (y : ℕ). y % 2) (div-one (x * 2 + d)) ∙ digits_mod x h in (λ b. sym e ∙ b, λ q. e ∙ q)

  pub bit-above : (i : ℕ) → Bit (x * 2 + d) (suc i) ↔ Bit x i
  bit-above i = let e = half_bit (x * 2 + d) i ∙ ap (λ (y : ℕ). y / 2 ^ i % 2) (digits_div x h) in (λ b. sym e ∙ b, λ b. e ∙ b)

-- the bits that two numbers have in common
pub bit-and : (i a b : ℕ) → Bit (bit_and a b) i ↔ (Bit a i × Bit b i)
bit-and zero a b =
    let m : min (a % 2) (b % 2) < 2 = omega arith in
    let u = bit_lowest (bit_and (a / 2) (b / 2)) (min (a % 2) (b % 2)) m in
    let p : (x : ℕ) → x / 2 ^ 0 % 2 ≡ x % 2 = λ x. ap (λ (y : ℕ). y % 2) (div-one x) in
    rw (and_step a b) (
      λ h. let e = u.0 h in (omega (arith, e, p a), omega (arith, e, p b)),
      λ h. u.1 (omega (arith, h.0, h.1, p a, p b)),
    )
bit-and (suc i) a b =
    let m : min (a % 2) (b % 2) < 2 = omega arith in
    let u = bit-above (bit_and (a / 2) (b / 2)) (min (a % 2) (b % 2)) m i in
    let ih = bit-and i (a / 2) (b / 2) in
    rw (and_step a b)
    (λ h. let e = ih.0 (u.0 h) in (half_bit a i ∙ e.0, half_bit b i ∙ e.1), λ h. u.1 (ih.1 (sym (half_bit a i) ∙ h.0, sym (half_bit b i) ∙ h.1)))

-- a word in which all 64 are set
pub word_bits : (i : ℕ) → i < 64 → Bit 18446744073709551615 i
unfolding says all? bit? dec_lt ℕ_discrete
word_bits = says_true (all? (bit? 18446744073709551615) 64) refl
