-- Laws of lists of constraints: those of a part.
-- Assumes nothing.
use mathlib.Core.Path.{◌≡◌, ◌∙◌}
use mathlib.Core.List.{List}
use Prim.Native.Nat.{ℕ, ◌+◌, ◌-◌, ◌≤◌, ◌<◌}
use native.Mathlib.Omega.{arith}
use lib.ListN.{length, take, drop, length-drop}
use lib.Seq.{length-take-le, get_or-take, get_or-drop}
use Rattle.network.specs.declared.Constraint.{Constraint}
use Rattle.network.specs.Constraints.{constraint_count, constraint_at}

module _ (s : List Constraint) (start end : ℕ) (fits : end ≤ length s) where
  abbrev part : List Constraint
  part = take (end - start) (drop start s)

  pub part_count : constraint_count part ≡ end - start
  part_count = length-take-le (end - start) (drop start s) (omega (arith, length-drop start s))

  pub part_at : (y : ℕ) → y < end - start → constraint_at part y ≡ constraint_at s (start + y)
  part_at y l = get_or-take (end - start) (drop start s) y _ l ∙ get_or-drop start s y _
