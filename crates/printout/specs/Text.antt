-- Text as bytes, numbers in decimal, and what adding text to a buffer means.
-- Assumes nothing.
use Rattle.std.specs.Prelude.{◌≡◌, List, [], ◌∷◌, ◌++◌, ℕ, zero, suc, ◌+◌, ◌*◌, ◌-◌, ◌/◌, ◌%◌, length, take, drop}
use Rattle.std.proofs.Math.Logic.{ite}
use Prim.Native.Char.{code}
use Prim.Native.String.{String, [] as empty, ◌∷◌ as ◌followed◌}
use Rattle.std.proofs.Math.Decide.{dec_lt}

-- a text's bytes: the texts here are ASCII
unfoldable pub bytes : String → List ℕ
bytes empty = []
bytes (x followed xs) = code x ∷ bytes xs

-- the byte of a decimal digit: "0" is 48
abbrev pub digit_byte : ℕ → ℕ
digit_byte d = 48 + d

-- n in decimal, highest digit first, where k digits are enough: below 10 a digit, and else the tenth of n and then the last digit
unfoldable pub spelled : (k n : ℕ) → List ℕ
unfolding dec_lt
spelled zero n = []
spelled (suc k) n = ite {C = List ℕ} (dec_lt n 10) (digit_byte n ∷ []) (spelled k (n / 10) ++ (digit_byte (n % 10) ∷ []))

-- n in decimal; n + 1 digits are enough
unfoldable pub decimal : ℕ → List ℕ
decimal n = spelled (suc n) n

-- the number that digits stand for, after those that stand for n (`value-decimal` of proofs/Decimal: of a number in decimal it is the number)
unfoldable pub value_after : ℕ → List ℕ → ℕ
value_after n [] = n
value_after n (d ∷ ds) = value_after (10 * n + (d - 48)) ds

-- What code promises that adds text to a buffer at a place: up to the text's end, the new place, the buffer has what stood before the place,
-- and then the text; the bytes past it are kept, and the buffer is as long as before.
pub record Added (before : List ℕ) (at : ℕ) (text after : List ℕ) (end : ℕ) : Type 0 where
  pub ends : end ≡ at + length text
  pub holds : take end after ≡ take at before ++ text
  pub kept : drop end after ≡ drop end before
  pub as_long : length after ≡ length before
