-- `working::Verdict::or_else` meets its contract.
-- Assumes nothing.
use mathlib.Core.Path.{sym, ◌∙◌}
use Rattle.working.proofs.Working.{else_first, else_second}
use Rattle.working.proofs.Verdict.or_else.Goals as goal

pub returns-in-Meets : goal.returns-in-Meets
returns-in-Meets g c = λ w same. same _ c.other.ensures ∙ sym (else_second _ _ c.in-Meets.is)

pub returns : goal.returns
returns g c = λ w same. sym (else_first _ _ c.in_default.not-Meets)
