-- `columns::taken_at` meets its contract. The row and the column are lent, each with as many entries as there are elements.
-- Assumes nothing.
use mathlib.Core.Path.{◌≡◌, sym, ◌∙◌}
use native.Mathlib.Omega.{arith}
use lib.ListN.{length}
use Rattle.sections.specs.Values.{as_quantifier}
use Rattle.columns.proofs.Workable.{row_le, taken_lent}
use Rattle.columns.proofs.taken_at.Goals as goal

pub taken_over-requires : goal.taken_over-requires
taken_over-requires c =
    let ok = c.requires.reached in
    record {
      same_length = c.links_from.ensures.1 ∙ sym c.column.ensures.1;
      by_index = λ f l. row_le ok c.links_from.ensures.0 c.args.logic.steps c.requires.by_index f (omega (arith, c.links_from.ensures.1));
    }

pub returns : goal.returns
returns c =
    let long : length c.links_from.result.now ≡ c.args.n = c.links_from.ensures.1 in
    c.taken_over.ensures
    ∙ rw long (taken_lent c.requires.reached c.links_from.ensures.0 c.args.columns.now c.column.ensures.0 (as_quantifier c.args.quantifier) c.args.logic)
