-- `term_sets::narrow_at` meets its contract. The sets of the first `i` left terms are narrowed.
-- Assumes nothing.
use mathlib.Core.Path.{◌≡◌}
use Prim.Native.Nat.{◌≤◌}
use lib.ListN.{length, get_or}
use Rattle.term_sets.proofs.Sets.{NarrowedTo}
use Rattle.term_sets.proofs.narrow_at.Given as goal

abbrev pub invariant-loop-i : goal.invariant-loop-i
invariant-loop-i l =
    NarrowedTo (length l.row) l.i l.initial.sets l.sets (λ i j. get_or l.row i 0 ≡ l.level → l.level ≤ get_or l.row j 0)
