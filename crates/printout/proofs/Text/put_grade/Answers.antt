-- `printout::Text::put_grade` meets its contract.
-- Assumes nothing.
use mathlib.Core.Path.{ap, ◌∙◌}
use native.Mathlib.Omega.{arith}
use Rattle.printout.specs.Lines.{spaced}
use Rattle.printout.proofs.Lines.{spaced_small}
use Rattle.printout.proofs.Adding.{added_then, added_same}
use Rattle.printout.proofs.Text.put_grade.Goals as goal

pub put_digit-requires : goal.put_digit-requires
put_digit-requires c = omega arith

pub returns-clause-added : goal.returns-clause-added
returns-clause-added c =
    added_same (spaced_small c.from.result (omega arith) ∙ ap spaced c.from.ensures) (added_then c.put_byte.ensures.added c.put_digit.ensures.added)
