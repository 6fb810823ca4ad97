-- `models::fill_rows` meets its contract. The rows of the types before number `e` are filled.
-- Assumes nothing.
use Rattle.sections.specs.Terms.{terms_of}
use Rattle.gradings.specs.Gradings.{grading}
use Rattle.models.specs.Rows.{HoldsRows}
use Rattle.models.proofs.fill_rows.Given as goal

abbrev pub invariant-loop-e : goal.invariant-loop-e
invariant-loop-e l = HoldsRows (grading l.grader.logic (terms_of l.grader.terms.now)) l.types l.e l.rows
