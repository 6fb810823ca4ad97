-- The bits of a byte: bit i counts 2 to the i.
-- Assumes nothing.
use Rattle.std.specs.Prelude.{◌≡◌, List, [], ◌∷◌, ℕ, ◌+◌, ◌/◌, ◌%◌, ◌^◌}
use Rattle.std.proofs.Math.Decide.{ℕ_discrete}
use Rattle.chain.specs.Lists.{keep, from}

-- bit i of x is set
abbrev pub Bit : (x i : ℕ) → Type 0
Bit x i = x / 2 ^ i % 2 ≡ 1

unfoldable pub bit? : (x i : ℕ) → Dec (Bit x i)
unfolding ℕ_discrete
bit? x i = ℕ_discrete (x / 2 ^ i % 2) 1

-- the bits of a byte that are set, ascending
unfoldable pub bits_of : ℕ → List ℕ
unfolding keep from bit?
bits_of x = keep (bit? x) (from 0 8)

-- and the byte of the bits that are set: the sum of what they count
unfoldable pub byte_of : List ℕ → ℕ
byte_of [] = 0
byte_of (i ∷ is) = 2 ^ i + byte_of is
