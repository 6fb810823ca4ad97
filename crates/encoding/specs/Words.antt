-- Bytes, and numbers of two bytes. Document 01, "The book".
-- Assumes nothing.
use Rattle.std.specs.Prelude.{List, [], ◌∷◌, ℕ, ◌+◌, ◌*◌, ◌/◌, ◌%◌, ◌<◌, get_or}

-- the numbers of a list of bytes
abbrev pub Bytes : List ℕ → Type 0
Bytes b = (i : ℕ) → get_or b i 0 < 256

-- "two-byte numbers have the high byte first"
unfoldable pub word_at : List ℕ → ℕ → ℕ
word_at b at = get_or b at 0 * 256 + get_or b (at + 1) 0

-- the same, as its bytes
abbrev pub word_bytes : ℕ → List ℕ
word_bytes v = v / 256 ∷ v % 256 ∷ []
