-- `claim_verdicts::memberships_verdict` meets its contract.
-- Assumes nothing.
use mathlib.Core.Path.{sym, ◌∙◌}
use borrow.Author.Rules.{rules}
use Rattle.claim_verdicts.proofs.Judging.{memberships-first}
use Rattle.claim_verdicts.proofs.memberships_verdict.Goals as goal

pub returns : goal.returns
returns c = c.first.ensures _ (λ i v l e. search rules) ∙ sym (memberships-first _ _ _)
