-- `grades::Grader::fill_row` meets its contract. Before each term the row has the grades of the earlier terms, and
-- `rest` the digits of the places that are still to come.
-- Assumes nothing.
use mathlib.Core.Path.{◌≡◌}
use mathlib.Core.List.{◌++◌}
use lib.ListN.{drop}
use Rattle.grades.proofs.OneTerm.{rest_at, earlier}
use Rattle.grades.proofs.Grader.fill_row.Given as goal

abbrev pub invariant-loop-i : goal.invariant-loop-i
invariant-loop-i l = record {
  filled : l.row ≡ earlier l.self.logic l.self.terms.now l.c l.i ++ drop l.i l.initial.row;
  left : l.rest ≡ rest_at l.self.logic.steps l.self.terms.now l.c l.i;
}
