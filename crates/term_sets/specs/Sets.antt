-- What code keeps of the table while it works: for each left term the set of the right terms that no type has refuted, as the bits of a word. It
-- stands in private contracts only.
-- Assumes nothing.
use Rattle.std.specs.Prelude.{◌↔◌, ℕ, ◌+◌, ◌-◌, ◌/◌, ◌%◌, ◌^◌, ◌≤◌, ◌<◌, length, get_or}
use mathlib.Core.List.{List, flat_map}
use Rattle.chain.specs.Lists.{table, from}
use Rattle.encoding.specs.Bits.{Bit}

-- the word's bits are the terms that the row grades at least so high; of those from number j on: the word is what is gathered from the end
abbrev pub GatheredFrom : (row : List ℕ) (level j word : ℕ) → Type 0
GatheredFrom row level j word = (word < 2 ^ (length row - j)) × ((k : ℕ) → k < length row - j → Bit word k ↔ (level ≤ get_or row (j + k) 0))

-- of all
abbrev pub Gathered : (row : List ℕ) (level word : ℕ) → Type 0
Gathered row level word = (j : ℕ) → j < length row → Bit word j ↔ (level ≤ get_or row j 0)

-- of n terms, right term j is in the set of left term i if P says so
abbrev pub Standing : (n : ℕ) (sets : List ℕ) (P : ℕ → ℕ → Type 0) → Type 0
Standing n sets P = (i j : ℕ) → i < n → j < n → Bit (get_or sets i 0) j ↔ P i j

-- right term j was in the set of left term i, and P says so: what is left of the sets when the pairs that P does not hold of are refuted
abbrev pub Narrowed : (n : ℕ) (was now : List ℕ) (P : ℕ → ℕ → Type 0) → Type 0
Narrowed n was now P = Standing n now (λ i j. Bit (get_or was i 0) j × P i j)

-- the sets as bytes, row by row
abbrev pub set_row : (n word : ℕ) → List ℕ
set_row n word = table (λ j. word / 2 ^ j % 2) n

unfoldable pub set_table : (n : ℕ) (sets : List ℕ) (rows : ℕ) → List ℕ
set_table n sets rows = flat_map (λ i. set_row n (get_or sets i 0)) (from 0 rows)
