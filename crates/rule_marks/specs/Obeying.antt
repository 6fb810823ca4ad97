-- The rules, of a row of grades.
-- Assumes nothing.
use Rattle.std.specs.Prelude.{List, ℕ, ◌≤◌, ◌<◌, get_or}
use Rattle.claims.specs.Rules.{rule_count, rule_at}

-- a row of grades meets every rule
abbrev pub RowObeys : (rules row : List ℕ) → Type 0
RowObeys rules row = (i : ℕ) → i < rule_count rules → get_or row (rule_at rules i).left 0 ≤ get_or row (rule_at rules i).right 0
