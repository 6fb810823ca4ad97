-- `printout::Text::refused_line` meets its contract.
-- Assumes nothing.
use mathlib.Core.Path.{ap}
use native.Mathlib.Omega.{arith}
use Rattle.printout.specs.Text.{bytes}
use Rattle.printout.specs.Lines.{labelled, newline, refused_line}
use Rattle.printout.proofs.Adding.{added_then, added_same}
use Rattle.printout.proofs.Text.refused_line.Goals as goal

pub returns : goal.returns
unfolding refused_line labelled newline bytes
returns c = record {
  added = added_same (ap refused_line c.from.ensures) (added_then c.put_labelled.ensures.added c.put_newline.ensures.added);
  upper_bound = omega arith;
  same_buffer = cc;
}
