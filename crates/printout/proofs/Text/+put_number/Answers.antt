-- `printout::Text::put_number` meets its contract.
-- Assumes nothing.
use mathlib.Core.Path.{sym}
use native.Mathlib.Omega.{arith}
use Rattle.printout.proofs.Decimal.{decimal_small, decimal_large, length_small, length_large}
use Rattle.printout.proofs.Adding.{added_then, added_same}
use Rattle.printout.proofs.Text.+put_number.Goals as goal

pub put_digit-requires : goal.put_digit-requires
put_digit-requires t c = omega (arith, length_small c.args.n (omega arith))

pub returns-then-n-lt10-clause-added : goal.returns-then-n-lt10-clause-added
returns-then-n-lt10-clause-added t c = added_same (sym (decimal_small c.args.n (omega arith))) c.put_digit.ensures.added

pub put_number-requires : goal.put_number-requires
put_number-requires t c = omega (arith, length_large c.args.n (omega arith))

pub put_digit-requires-2 : goal.put_digit-requires-2
put_digit-requires-2 t c = omega (arith, length_large c.args.n (omega arith))

pub returns-clause-added : goal.returns-clause-added
returns-clause-added t c = added_same (sym (decimal_large c.args.n (omega arith))) (added_then c.put_number.ensures.added c.put_digit-2.ensures.added)
