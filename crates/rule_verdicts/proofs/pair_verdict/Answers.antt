-- `rule_verdicts::pair_verdict` meets its contract.
-- Assumes nothing.
use borrow.Author.Rules.{rules}
use Rattle.working.specs.Working.{pair_verdict}
use Rattle.rule_verdicts.proofs.pair_verdict.Goals as goal

pub returns : goal.returns
unfolding pair_verdict
returns c = c.first.ensures _ (λ i v l e. search rules)
