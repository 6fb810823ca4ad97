-- `filter::Filter::enter` meets its contract.
-- Assumes nothing.
use Prim.Native.Nat.{◌≤◌, ◌+◌, ◌*◌}
use native.Mathlib.Omega.{arith}
use lib.ListN.{length}
use Rattle.sections.specs.Terms.{terms_of}
use Rattle.gradings.specs.Gradings.{grading}
use Rattle.grades.proofs.Rows.{filled_grades}
use Rattle.levels.proofs.Rows.{length-row_at}
use Rattle.filter.proofs.Filtering.{slots-within, claims_within, entered_by}
use Rattle.filter.proofs.Filter.enter.Goals as goal

pub put_row-requires : goal.put_row-requires
put_row-requires c =
    let f = c.args.self.now in (
      omega (arith, f.network.now.wired.few, f.columns_are),
      slots-within c.requires.task _ (omega (arith, c.requires.task.few_terms)),
      omega (arith, c.requires.in_bounds),
    )

pub allow_row-requires : goal.allow_row-requires
allow_row-requires c =
    let f = c.args.self.now in
    let rows = c.put_row.new.rows in
    let room : 32 * c.args.c + 32 ≤ length rows = omega (arith, c.put_row.auto.rows, c.requires.in_bounds) in
    let long = length-row_at rows c.args.c room in record {
      claims_below = claims_within c.requires.task _ (omega (arith, c.requires.task.few_terms));
      in_bounds = (rw c.row_at.ensures (omega (arith, long, f.network.now.wired.few)), c.requires.in_bounds.0, c.requires.in_bounds.2);
    }

pub returns : goal.returns
returns c =
    let f = c.args.self.now in
    let G = grading f.grader.logic (terms_of f.grader.terms.now) in
    let full = c.fill_row.new.row in
    let are = filled_grades G c.args.c full _ c.fill_row.ensures in
    entered_by c.requires.task full (rw f.logic_is at are) c.put_row.ensures.rows_unchanged c.put_row.ensures.slot_row c.row_at.ensures c.allow_row.ensures
