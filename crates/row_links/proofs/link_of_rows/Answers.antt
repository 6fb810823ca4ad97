-- `row_links::link_of_rows` meets its contract. No level above `level` is allowed, so the link is the greatest up to it.
-- Assumes nothing.
use mathlib.Core.Path.{sym, ◌∙◌}
use native.Mathlib.Omega.{arith}
use Rattle.chain.proofs.Search.{greatest_le, greatest_yes, greatest_no}
use Rattle.semantics.specs.Links.{allows?}
use Rattle.semantics.proofs.Links.{between-greatest}
use Rattle.gradings.specs.Gradings.{grading}
use Rattle.sections.specs.Terms.{terms_of}
use Rattle.grades.specs.Rows.{entry}
use Rattle.row_links.proofs.link_of_rows.Goals as goal

pub loop-level-init : goal.loop-level-init
loop-level-init c = between-greatest _ _ _ _

pub returns-then-rows_allow : goal.returns-then-rows_allow
returns-then-rows_allow c = sym (c.loop-level.invariant ∙ greatest_yes _ _ (c.rows_allow.ensures.0 c.if-rows_allow.true))

pub loop-level-preserved : goal.loop-level-preserved
loop-level-preserved c = c.loop-level.invariant ∙ greatest_no _ _ (omega (arith, c.loop-level-test.true)) (c.rows_allow.ensures.1 c.if-rows_allow.false)

pub returns : goal.returns
returns c =
    let a = c.args in
    let G = grading a.grader.now.logic (terms_of a.grader.now.terms.now) in
    omega (arith, c.loop-level.invariant, greatest_le (allows? G a.role (entry a.first.now) (entry a.second.now)) c.loop-level.level)
