-- `zegbiko::zegbiko_implied_rules` meets its contract: it gives the numbers of the answer, and touches no buffer itself.
-- Assumes nothing.
use mathlib.Core.Path.{ap, ◌∙◌}
use borrow.Author.Rules.{rules}
use Rattle.numbers.specs.Numbers.{implied_numbers}
use Rattle.zegbiko.proofs.zegbiko_implied_rules.Goals as goal

pub returns : goal.returns
returns c =
    let answered = c.implied_rules.ensures in
    record { value = c.from.ensures ∙ ap implied_numbers answered.value; marks_after = answered.marks_after; table_after = answered.table_after }
