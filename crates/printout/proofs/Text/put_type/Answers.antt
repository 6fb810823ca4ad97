-- `printout::Text::put_type` meets its contract.
-- Assumes nothing.
use native.Mathlib.Omega.{arith}
use Rattle.printout.specs.Text.{bytes}
use Rattle.printout.specs.Lines.{labelled, newline, type_line}
use Rattle.printout.proofs.Adding.{added_then}
use Rattle.printout.proofs.Text.put_type.Goals as goal

pub returns : goal.returns
unfolding type_line labelled newline bytes
returns c = record {
  added = added_then
      c.put_labelled.ensures.added (added_then c.put_text.ensures.added
      (added_then c.put_grades.ensures.added c.put_newline.ensures.added));
  upper_bound = omega arith;
  same_buffer = cc;
}
