-- `sections::terms_right` meets its contract.
-- Assumes nothing.
use borrow.Author.Rules.{rules}
use Rattle.chain.proofs.Ranges.{all-tells}
use Rattle.sections.specs.Terms.{TermRight}
use Rattle.sections.proofs.terms_right.Goals as goal

pub returns : goal.returns
returns c =
    all-tells (TermRight c.args.s.now) _ _ _ _ c.all.ensures.ran (λ i f k. search rules) (λ i f k. search rules)
