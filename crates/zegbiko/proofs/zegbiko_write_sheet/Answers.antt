-- `zegbiko::zegbiko_write_sheet` meets its contract: it gives the numbers of the answer, and touches no buffer itself.
-- Assumes nothing.
use mathlib.Core.Path.{ap, ◌∙◌}
use borrow.Author.Rules.{rules}
use Rattle.numbers.specs.Numbers.{written_numbers}
use Rattle.zegbiko.proofs.zegbiko_write_sheet.Goals as goal

pub returns : goal.returns
returns c =
    let answered = c.write_sheet.ensures in
    record { value = c.from.ensures ∙ ap written_numbers answered.value; marks_after = answered.marks_after; placement_after = answered.placement_after; sheet_after = answered.sheet_after }
