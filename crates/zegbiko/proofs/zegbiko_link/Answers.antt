-- `zegbiko::zegbiko_link` meets its contract: it gives the numbers of the answer.
-- Assumes nothing.
use mathlib.Core.Path.{ap, ◌∙◌}
use borrow.Author.Rules.{rules}
use Rattle.numbers.specs.Numbers.{graded_numbers}
use Rattle.zegbiko.proofs.zegbiko_link.Goals as goal

pub returns : goal.returns
returns c = c.from.ensures ∙ ap graded_numbers c.link.ensures.value
