-- `models::write_names` meets its contract.
-- Assumes nothing.
use mathlib.Core.Path.{◌≡◌, subst}
use Prim.Native.Nat.{ℕ}
use borrow.Author.Rules.{rules}
use Rattle.chain.specs.Lists.{table}
use Rattle.grades.specs.Rows.{row_at}
use Rattle.sections.specs.Terms.{terms_of}
use Rattle.models.specs.Rows.{names_by, name_in}
use Rattle.models.proofs.Filling.{whole}
use Rattle.models.proofs.Rows.{named_row, length-name_row}
use Rattle.models.proofs.write_names.Goals as goal

pub returns : goal.returns
unfolding names_by
returns c =
    let a = c.args in
    let ts = terms_of a.grader.now.terms.now in
    whole _ a.body.now _ _
    (c.fill_blocks.ensures (named_row ts a.rows.now a.names) (length-name_row ts a.rows.now a.names)
    (λ e old new l w p. subst (λ (m : ℕ). new.now ≡ table (λ b. name_in ts b (row_at a.rows.now e)) m) w (search rules)))
    c.requires.exact
