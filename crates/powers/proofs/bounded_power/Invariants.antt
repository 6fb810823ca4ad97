-- `powers::bounded_power` meets its contract. After `i` places the product is their power, and within the limit. The measure says how many more
-- multiplications there can be, 14 from the first place on, since no power of 2 or more is within the limit from 15 places on.
-- Assumes nothing.
use mathlib.Core.Path.{◌≡◌}
use Prim.Native.Nat.{◌-◌, ◌^◌, ◌≤◌}
use Rattle.powers.proofs.bounded_power.Given as goal

abbrev pub invariant-loop-i : goal.invariant-loop-i
invariant-loop-i l = record { value : l.power ≡ l.base ^ l.i; within : l.power ≤ 16384 }

abbrev pub decreases-loop-i : goal.decreases-loop-i
decreases-loop-i l = 15 - l.i
