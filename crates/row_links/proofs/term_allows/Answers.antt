-- `row_links::term_allows` meets its contract. Only a quantified term of a role that bounds the link asks anything.
-- Assumes nothing.
use mathlib.Core.Logic.{inl, inr}
use Rattle.chain.proofs.Decisions.{tells_yes}
use Rattle.sections.proofs.Terms.{other_term}
use Rattle.grades.specs.Rows.{entry}
use Rattle.grades.proofs.OneTerm.{allows-other, allows-role, allows-quantified}
use Rattle.row_links.proofs.term_allows.Goals as goal

pub returns-then-kind-lt4 : goal.returns-then-kind-lt4
returns-then-kind-lt4 c =
    tells_yes (λ q r x e _. absurd (other_term c.args.grader.now.terms.now c.args.i c.requires.is_term (inl c.if-kind-lt4.true) q r x e))

pub returns-then-kind-gt5 : goal.returns-then-kind-gt5
returns-then-kind-gt5 c =
    tells_yes (λ q r x e _. absurd (other_term c.args.grader.now.terms.now c.args.i c.requires.is_term (inr c.if-kind-gt5.true) q r x e))

pub returns-then-not-governs : goal.returns-then-not-governs
returns-then-not-governs c =
    let g = c.args.grader.now in
    rw c.if-not-governs.true
    (tells_yes (allows-role g.logic g.terms.now c.args.role (entry c.args.first.now) (entry c.args.second.now) c.args.level c.args.i c.requires.is_term _ _ _
    c.in-Quantified.ensures.term_value (c.governs.ensures.1 c.if-not-governs.true)))

pub returns-else-not-governs : goal.returns-else-not-governs
returns-else-not-governs c =
    let g = c.args.grader.now in
    allows-quantified g.logic g.terms.now c.args.role (entry c.args.first.now) (entry c.args.second.now) c.args.level c.args.i c.requires.is_term _ _ _
    c.in-Quantified.ensures.term_value _ (c.governs.ensures.0 c.if-not-governs.false) (rw (← c.from.ensures) c.permits.ensures)

pub returns-in_default : goal.returns-in_default
returns-in_default c =
    let g = c.args.grader.now in
    tells_yes (allows-other g.logic g.terms.now c.args.role (entry c.args.first.now) (entry c.args.second.now) c.args.level c.args.i c.requires.is_term
    c.term_at.result c.term_at.ensures.term_value c.in_default.not-Quantified)
