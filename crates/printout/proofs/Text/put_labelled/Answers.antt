-- `printout::Text::put_labelled` meets its contract.
-- Assumes nothing.
use native.Mathlib.Omega.{arith}
use Rattle.printout.proofs.Decimal.{decimal_short}
use Rattle.printout.proofs.Adding.{added_then}
use Rattle.printout.proofs.Text.put_labelled.Goals as goal

pub put_number-requires : goal.put_number-requires
put_number-requires c = omega (arith, decimal_short 19 c.args.n (omega arith))

pub returns : goal.returns
returns c = record {
  added = added_then c.put_text.ensures.added c.put_number.ensures.added;
  upper_bound = omega (arith, decimal_short 19 c.args.n (omega arith));
  same_buffer = cc;
}
