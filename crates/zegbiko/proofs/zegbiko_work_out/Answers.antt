-- `zegbiko::zegbiko_work_out` meets its contract: it gives the numbers of the answer, and touches no buffer itself.
-- Assumes nothing.
use mathlib.Core.Path.{ap, ◌∙◌}
use borrow.Author.Rules.{rules}
use Rattle.numbers.specs.Numbers.{worked_numbers}
use Rattle.zegbiko.proofs.zegbiko_work_out.Goals as goal

pub returns : goal.returns
returns c =
    let answered = c.work_out.ensures in
    record { value = c.from.ensures ∙ ap worked_numbers answered.value; grid_after = answered.grid_after }
