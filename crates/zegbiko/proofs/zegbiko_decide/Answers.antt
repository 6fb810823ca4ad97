-- `zegbiko::zegbiko_decide` meets its contract: it gives the numbers of the answer, and touches no buffer itself.
-- Assumes nothing.
use mathlib.Core.Path.{ap, ◌∙◌}
use borrow.Author.Rules.{rules}
use Rattle.numbers.specs.Numbers.{decided_numbers}
use Rattle.zegbiko.proofs.zegbiko_decide.Goals as goal

pub returns : goal.returns
returns c =
    let answered = c.decide.ensures in
    record { value = c.from.ensures ∙ ap decided_numbers answered.value; marks_after = answered.marks_after; placement_after = answered.placement_after }
