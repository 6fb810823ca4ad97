-- `rule_verdicts::pairs_verdict` meets its contract.
-- Assumes nothing.
use mathlib.Core.Path.{sym, ◌∙◌}
use borrow.Author.Rules.{rules}
use Rattle.rule_verdicts.proofs.Judging.{pairs_first}
use Rattle.rule_verdicts.proofs.pairs_verdict.Goals as goal

pub returns : goal.returns
returns c = c.first.ensures _ (λ i v l e. search rules) ∙ sym (pairs_first _ _ _)
