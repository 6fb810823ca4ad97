-- Tables of rows.
-- Assumes nothing.
use Rattle.std.specs.Prelude.{List, [], ℕ, get_or}

-- row a of a table, and its entry in column q
abbrev pub row_in : List (List ℕ) → (a : ℕ) → List ℕ
row_in t a = get_or t a []

abbrev pub cell : List (List ℕ) → (a q : ℕ) → ℕ
cell t a q = get_or (row_in t a) q 0
