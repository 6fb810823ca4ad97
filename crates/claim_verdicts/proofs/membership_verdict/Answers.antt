-- `claim_verdicts::membership_verdict` meets its contract.
-- Assumes nothing.
use mathlib.Core.Path.{sym}
use Rattle.working.specs.Working.{membership_verdict}
use Rattle.working.proofs.Working.{judge_yes, judge_no}
use Rattle.claim_verdicts.proofs.membership_verdict.Goals as goal

pub returns-then-members_meet : goal.returns-then-members_meet
unfolding membership_verdict
returns-then-members_meet c = sym (judge_yes _ _ (rw c.membership_at.ensures at (c.members_meet.ensures.0 c.if-members_meet.true)))

pub returns : goal.returns
unfolding membership_verdict
returns c = sym (judge_no _ _ (rw c.membership_at.ensures at (c.members_meet.ensures.1 c.if-members_meet.false)))
