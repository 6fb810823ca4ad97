-- Where code lists the marked candidates: at the front of a list of numbers.
-- Assumes nothing.
use Rattle.std.specs.Prelude.{◌≡◌, List, ℕ, length, take}
use Rattle.elimination.specs.Marks.{marked}

-- the first k entries of xs are the marked candidates below n, ascending
abbrev pub Lists : (marks : List ℕ) (n k : ℕ) (xs : List ℕ) → Type 0
Lists marks n k xs = (k ≡ length (marked marks n)) × (take k xs ≡ marked marks n)
