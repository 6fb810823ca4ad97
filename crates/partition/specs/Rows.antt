-- Classes of candidates with equal rows: a table of rows, and for each candidate which of them it has. Two classes with equal rows would do no
-- harm, so nothing is said against them.
-- Assumes nothing.
use Rattle.std.specs.Prelude.{◌≡◌, List, ℕ, ◌+◌, ◌≤◌, ◌<◌, length, get_or}
use Rattle.zones.specs.Rows.{row_in, cell}

-- row k begins with the entries of `row`
abbrev pub IsRow : (rows : List (List ℕ)) (k : ℕ) (row : List ℕ) → Type 0
IsRow rows k row = (q : ℕ) → q < length row → cell rows k q ≡ get_or row q 0

-- the rows before row k are as they were
abbrev pub KeptRows : (k : ℕ) (old new : List (List ℕ)) → Type 0
KeptRows k old new = (i : ℕ) → i < k → row_in new i ≡ row_in old i

-- the index names classes below k, one more than each; 0 for none
abbrev pub Names : (index : List ℕ) (k : ℕ) → Type 0
Names index k = (i : ℕ) → get_or index i 0 ≤ k

-- candidate c, with this row, got a class: one of `count`, or the next; there are r now
pub record Enrolled (row : List ℕ) (rows rows' : List (List ℕ)) (class class' : List ℕ) (c count r : ℕ) : Type 0 where
  pub grows : count ≤ r
  pub at_most : r ≤ count + 1
  pub class_lt : get_or class' c 0 < r
  pub row_is : IsRow rows' (get_or class' c 0) row
  pub kept : KeptRows count rows rows'
  pub others : (d : ℕ) → ¬ (d ≡ c) → get_or class' d 0 ≡ get_or class d 0
  pub new : (k : ℕ) → count ≤ k → k < r → get_or class' c 0 ≡ k

-- the candidates below b have classes, `count` of them, each with a member; the row of a class is what its members have by f, m entries long
pub record Classified (f : ℕ → ℕ → ℕ) (m : ℕ) (rows : List (List ℕ)) (class : List ℕ) (b count : ℕ) : Type 0 where
  pub known : (c : ℕ) → c < b → get_or class c 0 < count
  pub are : (c : ℕ) → c < b → (q : ℕ) → q < m → cell rows (get_or class c 0) q ≡ f c q
  pub each : (k : ℕ) → k < count → (c : ℕ) × (c < b) × (get_or class c 0 ≡ k)
  pub few : count ≤ b
