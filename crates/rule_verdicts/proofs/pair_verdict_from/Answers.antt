-- `rule_verdicts::pair_verdict_from` meets its contract.
-- Assumes nothing.
use borrow.Author.Rules.{rules}
use Rattle.working.specs.Working.{pair_verdict_from}
use Rattle.rule_verdicts.proofs.pair_verdict_from.Goals as goal

pub returns : goal.returns
unfolding pair_verdict_from
returns c = c.first.ensures _ (λ i v l e. search rules)
