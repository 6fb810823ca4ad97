-- `rule_verdicts::rule_verdict` meets its contract.
-- Assumes nothing.
use borrow.Author.Rules.{rules}
use Rattle.working.specs.Working.{rule_verdict}
use Rattle.rule_verdicts.proofs.rule_verdict.Goals as goal

pub returns : goal.returns
unfolding rule_verdict
returns c = c.first.ensures _ (λ i v l e. search rules)
