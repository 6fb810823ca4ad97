-- `filter::fitting` meets its contract. The claims below `i` have struck those that they mention, where they are not met.
-- Assumes nothing.
use mathlib.Core.Path.{◌≡◌}
use mathlib.Core.Bool.{true, false}
use mathlib.Core.Logic.{◌↔◌}
use Prim.Native.Nat.{ℕ, ◌<◌}
use lib.ListN.{get_or}
use Rattle.grades.specs.Rows.{entry}
use Rattle.filter.specs.Filter.{MembershipBy}
use Rattle.filter.proofs.fitting.Given as goal

abbrev pub invariant-loop-i : goal.invariant-loop-i
invariant-loop-i l = (j : ℕ) → j < 8 → (get_or l.fits j false ≡ true) ↔ ((x : ℕ) → x < l.i → MembershipBy l.memberships j (entry l.row) x)
