-- Bounds on places in bodies of rows, over plain numbers, and what a lent part of a list has.
-- Assumes nothing.
use mathlib.Core.Path.{◌≡◌, refl}
use mathlib.Core.List.{List}
use Prim.Native.Nat.{ℕ, ◌+◌, ◌*◌, ◌-◌, ◌≤◌, ◌<◌}
use native.Mathlib.Nat.{mul-suc, mul_comm, mul_assoc, mul-le-mul_left}
use native.Mathlib.Omega.{arith}
use lib.ListN.{length, get_or, take, drop, length-drop}
use lib.Seq.{length-take-le, get_or-take, get_or-drop}

-- row x of rows of width m ends within y rows
pub row_end : (m x y : ℕ) → x < y → m * x + m ≤ m * y
row_end m x y h = omega (arith, mul-suc m x, mul-le-mul_left m h)

-- so does each of its entries
pub entry-below : (m k x y : ℕ) → k < m → x < y → m * x + k < y * m
entry-below m k x y h l = omega (arith, row_end m x y l, mul_comm m y)

-- row e of block r, in R blocks of n rows of n
pub block_row-end : (n r R e : ℕ) → r < R → e < n → n * (n * r + e) + n ≤ R * (n * n)
block_row-end n r R e h l = rw (← mul_assoc R n n, mul_comm (R * n) n) (row_end n (n * r + e) (R * n) (entry-below n e r R l h))

-- ---- n entries from place k on

-- as code lends them
pub part-lent : (l : List ℕ) (k n : ℕ) → k + n ≤ length l
    → (take (k + n - k) (drop k l) ≡ take n (drop k l)) × (length (take (k + n - k) (drop k l)) ≡ n)
part-lent l k n h =
    let e : k + n - k ≡ n = omega arith in
    rw e (refl, length-take-le n (drop k l) (rw length-drop (omega arith)))

pub part_at : (l part : List ℕ) (n k : ℕ) (is : part ≡ take n (drop k l)) (f : ℕ) → f < n → get_or part f 0 ≡ get_or l (k + f) 0
part_at l part n k is f h = rw (is, get_or-take, get_or-drop)
