-- A table of rows of slots, 32 bytes each: room for the own grades and the children's grades of 16 slots.
-- Assumes nothing.
use Rattle.std.specs.Prelude.{List, ℕ, ◌*◌, take, drop}

-- row k
abbrev pub row_at : (rows : List ℕ) (k : ℕ) → List ℕ
row_at rows k = take 32 (drop (32 * k) rows)
