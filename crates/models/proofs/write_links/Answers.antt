-- `models::write_links` meets its contract.
-- Assumes nothing.
use borrow.Author.Rules.{rules}
use Rattle.sections.specs.Terms.{terms_of}
use Rattle.models.specs.Rows.{square_by, links_by}
use Rattle.models.proofs.Filling.{whole}
use Rattle.models.proofs.Rows.{length-square}
use Rattle.models.proofs.write_links.Goals as goal

pub returns : goal.returns
unfolding links_by
returns c =
    let a = c.args in
    let g = a.grader.now in
    whole _ a.body.now _ _
    (c.fill_blocks.ensures (square_by g.logic (terms_of g.terms.now) a.rows.now a.n) (length-square g.logic (terms_of g.terms.now) a.rows.now a.n)
    (λ r old new l w p. search rules))
    c.requires.exact
