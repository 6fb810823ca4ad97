-- `term_sets::write_set` meets its contract. The row begins with the bits before number `j`.
-- Assumes nothing.
use mathlib.Core.Path.{◌≡◌}
use mathlib.Core.List.{◌++◌}
use lib.ListN.{drop}
use Rattle.term_sets.specs.Sets.{set_row}
use Rattle.term_sets.proofs.write_set.Given as goal

abbrev pub invariant-loop-j : goal.invariant-loop-j
invariant-loop-j l =
    l.row ≡ set_row l.j l.word ++ drop l.j l.initial.row
