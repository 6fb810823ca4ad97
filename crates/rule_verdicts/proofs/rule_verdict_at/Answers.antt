-- `rule_verdicts::rule_verdict_at` meets its contract.
-- Assumes nothing.
use native.Mathlib.Omega.{arith}
use Rattle.rule_verdicts.proofs.Judging.{rule_met, rule_unmet}
use Rattle.rule_verdicts.proofs.rule_verdict_at.Goals as goal

pub returns-then-cell : goal.returns-then-cell
returns-then-cell c = rule_unmet _ _ _ _ _ _ c.cell-2.ensures c.cell.ensures (omega arith)

pub returns : goal.returns
returns c = rule_met _ _ _ _ _ _ c.cell-2.ensures c.cell.ensures (omega arith)
