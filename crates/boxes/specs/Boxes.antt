-- Boxes: bounds on the grades in the columns of a row, and what it means that a box asks of a row just what a predicate says.
-- Assumes nothing.
use Rattle.std.specs.Prelude.{◌≡◌, ◌↔◌, List, ℕ, ◌-◌, ◌≤◌, ◌<◌, length, get_or, take, drop}
use Rattle.gradings.specs.declared.Logic.{Logic}
use Rattle.boxes.specs.declared.Bound.{Bound}

-- a row whose first m grades are on the chain
abbrev pub OnChain : Logic → (m : ℕ) (v : List ℕ) → Type 0
OnChain l m v = (t : ℕ) → t < m → get_or v t 0 ≤ l.steps

-- the row v lies within a bound
abbrev pub Within : Bound → (v : List ℕ) → Type 0
Within b v = (b.low ≤ get_or v b.column 0) × (get_or v b.column 0 ≤ b.high)

abbrev pub no_bound : Bound
no_bound = record { column = 0; low = 0; high = 0 }

-- bound x of a list
abbrev pub bound_at : (box : List Bound) → ℕ → Bound
bound_at box x = get_or box x no_bound

-- the row lies in the box
abbrev pub Inside : (box : List Bound) (v : List ℕ) → Type 0
Inside box v = (x : ℕ) → x < length box → Within (bound_at box x) v

-- the bounds from number a up to number b
abbrev pub part : (s : List Bound) (a b : ℕ) → List Bound
part s a b = take (b - a) (drop a s)

-- ---- by a logic, of rows over m columns

-- the bound asks of a row on the chain what P says
pub record Asks (l : Logic) (m : ℕ) (P : List ℕ → Type 0) (b : Bound) : Type 0 where
  pub column_lt : b.column < m
  pub exact : (v : List ℕ) → OnChain l m v → Within b v ↔ P v

-- the box does
pub record BoxOf (l : Logic) (m : ℕ) (P : List ℕ → Type 0) (box : List Bound) : Type 0 where
  pub columns : (x : ℕ) → x < length box → (bound_at box x).column < m
  pub exact : (v : List ℕ) → OnChain l m v → Inside box v ↔ P v

-- on the way: to the first k bounds of `old`, `new` adds those up to r, and these ask what P says
pub record Narrowed (l : Logic) (m : ℕ) (P : List ℕ → Type 0) (old : List Bound) (k : ℕ) (new : List Bound) (r : ℕ) : Type 0 where
  pub more : k ≤ r
  pub kept : (z : ℕ) → z < k → bound_at new z ≡ bound_at old z
  pub columns : (x : ℕ) → k ≤ x → x < r → (bound_at new x).column < m
  pub exact : (v : List ℕ) → OnChain l m v → ((x : ℕ) → k ≤ x → x < r → Within (bound_at new x) v) ↔ P v
