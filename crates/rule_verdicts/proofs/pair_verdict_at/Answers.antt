-- `rule_verdicts::pair_verdict_at` meets its contract.
-- Assumes nothing.
use native.Mathlib.Omega.{arith}
use Rattle.rule_verdicts.proofs.Judging.{pair_met, pair_unmet}
use Rattle.rule_verdicts.proofs.pair_verdict_at.Goals as goal

pub returns-then-link : goal.returns-then-link
returns-then-link c = pair_unmet _ _ _ _ _ _ _ c.link-2.ensures c.link.ensures (omega arith)

pub returns : goal.returns
returns c = pair_met _ _ _ _ _ _ _ c.link-2.ensures c.link.ensures (omega arith)
