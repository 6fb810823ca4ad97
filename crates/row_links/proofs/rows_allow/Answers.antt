-- `row_links::rows_allow` meets its contract.
-- Assumes nothing.
use borrow.Author.Rules.{rules}
use Rattle.chain.proofs.Ranges.{all-tells}
use Rattle.semantics.specs.Links.{TermAllows}
use Rattle.gradings.specs.Gradings.{grading}
use Rattle.sections.specs.Terms.{term_count, terms_of}
use Rattle.sections.proofs.Terms.{length-terms}
use Rattle.grades.specs.Rows.{entry}
use Rattle.row_links.proofs.rows_allow.Goals as goal

pub returns : goal.returns
returns c =
    let a = c.args in
    let g = a.grader.now in
    rw length-terms
    (all-tells (TermAllows (grading g.logic (terms_of g.terms.now)) a.role (entry a.first.now) (entry a.second.now) a.level) (term_count g.terms.now)
    _ _ _ c.all.ensures.ran (λ x q k. search rules) (λ x q k. search rules))
