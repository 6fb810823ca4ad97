-- `zegbiko::zegbiko_check` meets its contract: it gives the number of the answer.
-- Assumes nothing.
use mathlib.Core.Path.{sym, ap, ◌∙◌}
use Rattle.numbers.specs.Numbers.{checked_number}
use Rattle.zegbiko.proofs.zegbiko_check.Goals as goal

pub returns-in-Ok : goal.returns-in-Ok
returns-in-Ok c = c.checked_number.ensures ∙ ap checked_number (sym c.in-Ok.ensures.value.0)

pub returns-in-Err : goal.returns-in-Err
returns-in-Err c = c.checked_number-in-Err.ensures ∙ ap checked_number (sym c.in-Err.ensures.value)
