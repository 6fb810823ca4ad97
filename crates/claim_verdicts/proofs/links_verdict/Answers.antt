-- `claim_verdicts::links_verdict` meets its contract.
-- Assumes nothing.
use mathlib.Core.Path.{sym, ◌∙◌}
use borrow.Author.Rules.{rules}
use Rattle.claim_verdicts.proofs.Judging.{links-first}
use Rattle.claim_verdicts.proofs.links_verdict.Goals as goal

pub returns : goal.returns
returns c = c.first.ensures _ (λ i v l e. search rules) ∙ sym (links-first _ _)
