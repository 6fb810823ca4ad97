-- `models::is_name` meets its contract.
-- Assumes nothing.
use Rattle.chain.proofs.Decisions.{tells_no}
use Rattle.models.proofs.Rows.{name_tells, name-other}
use Rattle.models.proofs.is_name.Goals as goal

pub returns-in-Name : goal.returns-in-Name
returns-in-Name c = name_tells c.args.grader.now.terms.now c.args.i c.args.a c.requires.is_term c.in-Name.b _ c.in-Name.ensures.term_value c.from.ensures

pub returns-in_default : goal.returns-in_default
returns-in_default c =
    tells_no (name-other c.args.grader.now.terms.now c.args.i c.args.a c.requires.is_term c.term_at.result c.term_at.ensures.term_value
    c.in_default.not-Name)
