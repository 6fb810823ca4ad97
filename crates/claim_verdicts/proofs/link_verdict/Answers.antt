-- `claim_verdicts::link_verdict` meets its contract.
-- Assumes nothing.
use mathlib.Core.Path.{sym}
use Rattle.working.specs.Working.{link_verdict}
use Rattle.working.proofs.Working.{judge_yes, judge_no}
use Rattle.claim_verdicts.proofs.link_verdict.Goals as goal

pub returns-then-link_meets : goal.returns-then-link_meets
unfolding link_verdict
returns-then-link_meets c = sym (judge_yes _ _ (rw c.link_claim_at.ensures at (c.link_meets.ensures.0 c.if-link_meets.true)))

pub returns : goal.returns
unfolding link_verdict
returns c = sym (judge_no _ _ (rw c.link_claim_at.ensures at (c.link_meets.ensures.1 c.if-link_meets.false)))
