-- The candidates that each individual may have, as a table: a byte for each, 16384 for an individual. In the words of constraint satisfaction,
-- the domains of the individuals.
-- Assumes nothing.
use Rattle.std.specs.Prelude.{◌≡◌, List, ℕ, ◌+◌, ◌*◌, ◌<◌, get_or}

-- individual j may have candidate c
abbrev pub Allowed : List ℕ → (j c : ℕ) → Type 0
Allowed table j c = get_or table (16384 * j + c) 0 ≡ 1

-- individual j may have no candidate below count
abbrev pub Lacks : (table : List ℕ) (count j : ℕ) → Type 0
Lacks table count j = (c : ℕ) → c < count → ¬ Allowed table j c

-- one of the individuals below n has none
abbrev pub Vain : (table : List ℕ) (count n : ℕ) → Type 0
Vain table count n = (j : ℕ) × (j < n) × Lacks table count j
