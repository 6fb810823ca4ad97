-- What there must be on a sheet, for a book's pairs to be judged by its bytes.
-- Assumes nothing.
use Rattle.std.specs.Prelude.{List, ℕ, suc, ◌*◌, ◌≤◌, ◌<◌, length}
use Rattle.semantics.specs.Roles.{RolePair}
use Rattle.claims.specs.Pairs.{pair_count, pair_at}

-- n rows of n for each of a pair's roles
abbrev pub PairCovered : (n : ℕ) → List ℕ → RolePair → Type 0
PairCovered n ls q = (suc q.lower * (n * n) ≤ length ls) × (suc q.upper * (n * n) ≤ length ls)

abbrev pub PairsCovered : (n : ℕ) (ls ps : List ℕ) → Type 0
PairsCovered n ls ps = (i : ℕ) → i < pair_count ps → PairCovered n ls (pair_at ps i)
