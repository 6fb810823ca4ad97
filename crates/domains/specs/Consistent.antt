-- The placing of individuals as constraint satisfaction: when the candidates of two individuals are compatible under the constraints between
-- them, and when a placement is consistent.
-- Assumes nothing.
use Rattle.std.specs.Prelude.{◌≡◌, List, ℕ, ◌≤◌, ◌<◌, length}
use Rattle.gradings.specs.declared.Logic.{Logic}
use Rattle.levels.specs.Rows.{row_at}
use Rattle.boxes.specs.Boxes.{OnChain}
use Rattle.network.specs.declared.Constraint.{Constraint}
use Rattle.network.specs.Constraints.{AllMet}
use Rattle.network.specs.Network.{between, Wired}
use Rattle.domains.specs.Tables.{Allowed}

-- the rows a and b meet the constraints from the one to the other, and back
abbrev pub FitsBy : Logic → (forth back : List Constraint) (a b : List ℕ) → Type 0
FitsBy l forth back a b = AllMet l forth a b × AllMet l back b a

module _ (l : Logic) (net : List Constraint) (ends : List ℕ) where
  -- a row a for individual j and a row b for individual i are compatible
  abbrev pub Fits : (j i : ℕ) (a b : List ℕ) → Type 0
  Fits j i = FitsBy l (between net ends j i) (between net ends i j)

  -- s has each of n individuals where the table allows it, and any two are compatible
  pub record Consistent (count : ℕ) (rows : List ℕ) (n : ℕ) (table : List ℕ) (s : ℕ → ℕ) : Type 0 where
    pub below : (j : ℕ) → j < n → s j < count
    pub allowed : (j : ℕ) → j < n → Allowed table j (s j)
    pub fits : (j i : ℕ) → j < n → i < n → ¬ (i ≡ j) → Fits j i (row_at rows (s j)) (row_at rows (s i))

-- ---- what stays as it is throughout: a network over m columns, n individuals, candidates below count, and their rows

pub record Problem (l : Logic) (m : ℕ) (net : List Constraint) (ends : List ℕ) (count n : ℕ) (rows : List ℕ) : Type 0 where
  pub wired : Wired l m net ends
  pub candidates_few : count ≤ 16384
  pub individuals_few : n ≤ 8
  pub rows_long : 524288 ≤ length rows

-- the rows of the candidates in the table are on the chain
abbrev pub Graded : Logic → (m count n : ℕ) (rows table : List ℕ) → Type 0
Graded l m count n rows table = (j c : ℕ) → j < n → c < count → Allowed table j c → OnChain l m (row_at rows c)
