-- What the constraints between an individual and the others read of its row: the own grades of those from it, the children's grades of those to it.
-- Assumes nothing.
use Rattle.std.specs.Prelude.{◌≡◌, Bool, true, false, List, ℕ, ◌≤◌, ◌<◌, get_or}
use Rattle.network.specs.Constraints.{column_at, constraint_count, constraint_at}
use Rattle.network.specs.Network.{between}
use Rattle.network.specs.declared.Constraint.{Constraint}
use Rattle.network.specs.declared.End.{End}
use Rattle.network.specs.declared.End.TheVariants.{Source, Target}

-- column t was noted as one that is read
abbrev pub Noted : (seen : List Bool) (t : ℕ) → Type 0
Noted seen t = get_or seen t false ≡ true

-- of the first m constraints of a list
abbrev pub ListRead : (s : List Constraint) (end : End) (m : ℕ) (seen : List Bool) → Type 0
ListRead s e m seen = (y : ℕ) → y < m → Noted seen (column_at e (constraint_at s y))

-- of individual j, by the constraints between it and the others below m
abbrev pub Read : (net : List Constraint) (ends : List ℕ) (j m : ℕ) (seen : List Bool) → Type 0
Read net ends j m seen =
    (i : ℕ) → i < m → ¬ (i ≡ j)
    → ListRead (between net ends j i) Source (constraint_count (between net ends j i)) seen
    × ListRead (between net ends i j) Target (constraint_count (between net ends i j)) seen

-- what was read stays so
abbrev pub More : (old new : List Bool) → Type 0
More old new = (t : ℕ) → Noted old t → Noted new t

-- the first m entries of the list are columns below 32, and have every column below k that is read
pub record Listed (seen : List Bool) (k m : ℕ) (list : List ℕ) : Type 0 where
  pub fits : m ≤ k
  pub columns : (x : ℕ) → x < m → get_or list x 0 < 32
  pub each : (t : ℕ) → t < k → Noted seen t → (x : ℕ) × (x < m) × (get_or list x 0 ≡ t)
