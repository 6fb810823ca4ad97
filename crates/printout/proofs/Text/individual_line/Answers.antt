-- `printout::Text::individual_line` meets its contract.
-- Assumes nothing.
use native.Mathlib.Omega.{arith}
use Rattle.printout.specs.Text.{bytes}
use Rattle.printout.specs.Lines.{labelled, newline, individual_line}
use Rattle.printout.proofs.Adding.{added_then}
use Rattle.printout.proofs.Text.individual_line.Goals as goal

pub returns : goal.returns
unfolding individual_line labelled newline bytes
returns c = record {
  added = added_then c.put_labelled.ensures.added
      (added_then c.put_labelled-2.ensures.added
      c.put_newline.ensures.added);
  upper_bound = omega arith;
  same_buffer = cc;
}
