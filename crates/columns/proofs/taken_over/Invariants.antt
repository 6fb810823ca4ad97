-- `columns::taken_over` meets its contract. `found` is what is taken over the elements so far.
-- Assumes nothing.
use mathlib.Core.Path.{◌≡◌}
use lib.ListN.{length}
use Rattle.sections.specs.Values.{as_quantifier}
use Rattle.columns.specs.Workable.{taken_over}
use Rattle.columns.proofs.taken_over.Given as goal

abbrev pub invariant-loop-link : goal.invariant-loop-link
invariant-loop-link l = l.found ≡ taken_over (as_quantifier l.quantifier) l.logic l.row l.column (length l.yielded)
