-- `zegbiko::zegbiko_count` meets its contract: it gives the numbers of the answer.
-- Assumes nothing.
use mathlib.Core.Path.{ap, ◌∙◌}
use borrow.Author.Rules.{rules}
use Rattle.numbers.specs.Numbers.{counted_numbers}
use Rattle.zegbiko.proofs.zegbiko_count.Goals as goal

pub returns : goal.returns
returns c = c.from.ensures ∙ ap counted_numbers c.count.ensures.value
