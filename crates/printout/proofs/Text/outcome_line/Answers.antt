-- `printout::Text::outcome_line` meets its contract.
-- Assumes nothing.
use mathlib.Core.Path.{ap}
use native.Mathlib.Omega.{arith}
use Prim.Native.Nat.{ℕ}
use Rattle.printout.specs.Text.{bytes}
use Rattle.printout.specs.Lines.{labelled, newline, outcome_line}
use Rattle.printout.proofs.Adding.{added_then, added_same}
use Rattle.printout.proofs.Text.outcome_line.Goals as goal

pub returns : goal.returns
unfolding outcome_line labelled newline bytes
returns c = record {
  added = added_same (ap (λ (o : ℕ). outcome_line o c.args.survivors) c.from.ensures)
      (added_then c.put_labelled.ensures.added
      (added_then c.put_labelled-2.ensures.added
      c.put_newline.ensures.added));
  upper_bound = omega arith;
  same_buffer = cc;
}
