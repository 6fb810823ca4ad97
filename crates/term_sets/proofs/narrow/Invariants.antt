-- `term_sets::narrow` meets its contract. The left terms that are graded above `level` are done.
-- Assumes nothing.
use Prim.Native.Nat.{◌≤◌, ◌<◌}
use lib.ListN.{length, get_or}
use Rattle.term_sets.specs.Sets.{Narrowed}
use Rattle.term_sets.proofs.narrow.Given as goal

abbrev pub invariant-loop-level : goal.invariant-loop-level
invariant-loop-level l =
    Narrowed (length l.row) l.initial.sets l.sets (λ i j. l.level < get_or l.row i 0 → get_or l.row i 0 ≤ get_or l.row j 0)
