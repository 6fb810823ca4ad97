-- Laws of the layout: that its numbers can be worked out in code.
-- Assumes nothing.
use mathlib.Core.Logic.{⊎_elim}
use Prim.Native.Nat.{ℕ, ◌*◌, ◌≤◌, ◌<◌}
use native.Mathlib.Nat.{mul-le-mul, mul-le-mul_left, le-mul_of_pos_right, eq-zero-or-pos}
use native.Mathlib.Omega.{arith}
use Rattle.shapes.specs.Layout.{end_at, Indexable}
use Rattle.shapes.specs.declared.Shape.{Shape}

-- a head's counts are bytes
pub bytes_indexable : (p : Shape) → p.elements < 256 → p.names < 256 → p.roles < 256 → p.individuals < 256 → Indexable p
bytes_indexable p n a r i =
    let n' : p.elements ≤ 255 = omega arith in
    let a' : p.names ≤ 255 = omega arith in
    let r' : p.roles ≤ 255 = omega arith in
    omega (arith, mul-le-mul n' a', mul-le-mul r' (mul-le-mul n' n'))

-- r rows are no more than r squares
pub rows_le : (r n : ℕ) → r * n ≤ r * (n * n)
rows_le r n = mul-le-mul_left r (⊎_elim (λ z. omega arith) (λ l. le-mul_of_pos_right n l) (eq-zero-or-pos n))

-- the counts that a book allows leave each of a sheet's offsets in two bytes
pub few-end : (p : Shape) → p.elements ≤ 64 → p.names ≤ 16 → p.roles ≤ 8 → p.individuals ≤ 8 → end_at p ≤ 33812
few-end p n a r i = omega (arith, mul-le-mul n a, mul-le-mul r (mul-le-mul n n))
