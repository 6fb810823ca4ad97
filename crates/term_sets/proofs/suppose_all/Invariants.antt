-- `term_sets::suppose_all` meets its contract. The first `i` sets are full.
-- Assumes nothing.
use Prim.Native.Nat.{ℕ, ◌<◌}
use mathlib.Core.Path.{◌≡◌}
use lib.ListN.{length, get_or}
use Rattle.term_sets.proofs.suppose_all.Given as goal

abbrev pub invariant-loop-i : goal.invariant-loop-i
invariant-loop-i l = (length l.sets ≡ length l.initial.sets) × ((k : ℕ) → k < l.i → get_or l.sets k 0 ≡ 18446744073709551615)
