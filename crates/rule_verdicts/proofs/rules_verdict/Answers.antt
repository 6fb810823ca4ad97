-- `rule_verdicts::rules_verdict` meets its contract.
-- Assumes nothing.
use mathlib.Core.Path.{sym, ◌∙◌}
use borrow.Author.Rules.{rules}
use Rattle.rule_verdicts.proofs.Judging.{rules-first}
use Rattle.rule_verdicts.proofs.rules_verdict.Goals as goal

pub returns : goal.returns
returns c = c.first.ensures _ (λ i v l e. search rules) ∙ sym (rules-first _ _ _)
