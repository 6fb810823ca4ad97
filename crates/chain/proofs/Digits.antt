-- Laws of digits: each is below the base, any row of digits is some number's, and a number is known by its digits.
-- Assumes nothing.
use mathlib.Core.Path.{◌≡◌, sym, ap, ap₂, ◌∙◌}
use Prim.Native.Nat.{ℕ, zero, suc, ◌+◌, ◌*◌, ◌/◌, ◌%◌, ◌^◌, ◌<◌}
use native.Mathlib.Nat.{not-suc-le-zero, pow-zero, pow-suc, pow-succ', div-one, div-div-eq-div-mul, mod-lt, div-add-mod', mul-add-mod_self_right, mod-eq_of_lt, mul-add-div_right, div-eq_of_lt, div-lt_iff_lt-mul, add-zero, mul-le-mul_right}
use native.Mathlib.Omega.{arith}
use Rattle.chain.specs.Digits.{digit, encode}

module _ (B : ℕ) (pos : 0 < B) where
  pub digit_lt : (i c : ℕ) → digit B i c < B
  unfolding digit
  digit_lt zero c = mod-lt c pos
  digit_lt (suc i) c = digit_lt i (c / B)

  pub encode_lt : (k : ℕ) (g : ℕ → ℕ) → ((i : ℕ) → i < k → g i < B) → encode B k g < B ^ k
  unfolding encode
  encode_lt zero g h = rw (pow-zero B) (omega arith)
  encode_lt (suc k) g h =
      let ih : encode B k (λ i. g (suc i)) < B ^ k = encode_lt k (λ i. g (suc i)) (λ i l. h (suc i) (omega arith)) in
      omega (arith, mul-le-mul_right B ih, pow-suc B k, h zero (omega arith))

  pub digit-encode : (k : ℕ) (g : ℕ → ℕ) → ((i : ℕ) → i < k → g i < B) → (i : ℕ) → i < k → digit B i (encode B k g) ≡ g i
  unfolding digit encode
  digit-encode zero g h i l = absurd (not-suc-le-zero l)
  digit-encode (suc k) g h zero l = mul-add-mod_self_right (encode B k (λ i. g (suc i))) B (g zero) ∙ mod-eq_of_lt (h zero l)
  digit-encode (suc k) g h (suc i) l =
      rw (mul-add-div_right pos (encode B k (λ i. g (suc i))) (g zero), div-eq_of_lt (h zero (omega arith)), add-zero)
      (digit-encode k (λ i. g (suc i)) (λ j m. h (suc j) (omega arith)) i (omega arith))

  pub digits_inj : (k c d : ℕ) → c < B ^ k → d < B ^ k → ((i : ℕ) → i < k → digit B i c ≡ digit B i d) → c ≡ d
  unfolding digit
  digits_inj zero c d hc hd e = omega (arith, pow-zero B)
  digits_inj (suc k) c d hc hd e =
      sym (div-add-mod' c B)
      ∙ ap₂ (λ (q r : ℕ). q * B + r)
      (digits_inj k (c / B) (d / B) (part c hc) (part d hd) (λ i l. e (suc i) (omega arith)))
      (e zero (omega arith))
      ∙ div-add-mod' d B
    where
      part : (x : ℕ) → x < B ^ suc k → x / B < B ^ k
      part x h = (div-lt_iff_lt-mul pos).1 (rw (← pow-suc B k) h)

-- ---- taking digits off: c / B ^ i is c without its i lowest digits

pub digit_power : (B i c : ℕ) → digit B i c ≡ c / B ^ i % B
unfolding digit
digit_power B zero c = rw (pow-zero B, div-one c)
digit_power B (suc i) c =
    digit_power B i (c / B) ∙ ap (λ (x : ℕ). x % B) (div-div-eq-div-mul c B (B ^ i) ∙ ap (λ (x : ℕ). c / x) (sym (pow-succ' B i)))

pub off_zero : (B c : ℕ) → c / B ^ 0 ≡ c
off_zero B c = rw (pow-zero B) (div-one c)

pub off_suc : (B i c : ℕ) → c / B ^ i / B ≡ c / B ^ suc i
off_suc B i c = div-div-eq-div-mul c (B ^ i) B ∙ ap (λ (x : ℕ). c / x) (sym (pow-suc B i))
