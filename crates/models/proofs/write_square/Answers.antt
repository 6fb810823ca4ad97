-- `models::write_square` meets its contract.
-- Assumes nothing.
use mathlib.Core.Path.{◌≡◌, subst}
use Prim.Native.Nat.{ℕ}
use borrow.Author.Rules.{rules}
use Rattle.chain.specs.Lists.{table}
use Rattle.sections.specs.Terms.{terms_of}
use Rattle.models.specs.Rows.{square_by, link_in}
use Rattle.models.proofs.Filling.{whole}
use Rattle.models.proofs.Rows.{link_row, length-link_row}
use Rattle.models.proofs.write_square.Goals as goal

pub returns : goal.returns
unfolding square_by
returns c =
    let a = c.args in
    let g = a.grader.now in
    whole _ a.body.now _ _
    (c.fill_blocks.ensures (link_row g.logic (terms_of g.terms.now) a.rows.now a.n a.role)
    (length-link_row g.logic (terms_of g.terms.now) a.rows.now a.n a.role)
    (λ e old new l w p. subst (λ (m : ℕ). new.now ≡ table (λ f. link_in g.logic (terms_of g.terms.now) a.rows.now a.role e f) m) w (search rules)))
    c.requires.exact
