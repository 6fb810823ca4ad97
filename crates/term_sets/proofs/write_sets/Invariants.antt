-- `term_sets::write_sets` meets its contract. The table begins with the rows of the left terms before `i`.
-- Assumes nothing.
use mathlib.Core.Path.{◌≡◌}
use mathlib.Core.List.{◌++◌}
use Prim.Native.Nat.{◌*◌}
use lib.ListN.{drop}
use Rattle.term_sets.specs.Sets.{set_table}
use Rattle.term_sets.proofs.write_sets.Given as goal

abbrev pub invariant-loop-i : goal.invariant-loop-i
invariant-loop-i l =
    l.table ≡ set_table l.n l.sets l.i ++ drop (l.i * l.n) l.initial.table
