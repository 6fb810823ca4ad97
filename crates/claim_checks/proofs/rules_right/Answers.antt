-- `claim_checks::rules_right` meets its contract.
-- Assumes nothing.
use borrow.Author.Rules.{rules}
use Rattle.chain.proofs.Ranges.{all-tells}
use Rattle.claims.specs.Rules.{RuleRight}
use Rattle.claim_checks.proofs.rules_right.Goals as goal

pub returns : goal.returns
returns c =
    all-tells (RuleRight c.args.s.now c.args.n) _ _ _ _ c.all.ensures.ran
    (λ i f k. search rules) (λ i f k. search rules)
