-- `claim_checks::links_right` meets its contract.
-- Assumes nothing.
use borrow.Author.Rules.{rules}
use Rattle.chain.proofs.Ranges.{all-tells}
use Rattle.claims.specs.Claims.{LinkRight, link_record}
use Rattle.claim_checks.proofs.links_right.Goals as goal

pub returns : goal.returns
returns c =
    all-tells (λ i. LinkRight c.args.steps (link_record c.args.s.now i)) _ _ _ _ c.all.ensures.ran
    (λ i f k. search rules) (λ i f k. search rules)
