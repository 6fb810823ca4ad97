-- `models::write_model` meets its contract. The table of rows stands alone here, so that nothing computes it.
-- Assumes nothing.
use mathlib.Core.Path.{sym, ◌∙◌}
use Prim.Native.Nat.{ℕ}
use native.Mathlib.Nat.{le_of_eq}
use lib.ListN.{length, length-replicate}
use Rattle.models.proofs.Rows.{rows-sheet}
use Rattle.models.proofs.write_model.Goals as goal

pub write_sheet-requires : goal.write_sheet-requires
write_sheet-requires c = record {
  rows_long = le_of_eq (sym (c.fill_rows.auto.rows ∙ length-replicate {A = ℕ} 4096 0));
  room = c.requires;
}

pub returns : goal.returns
returns c =
    let g = c.args.grader.now in
    let l = c.args.listed in
    rows-sheet g.logic g.terms.now g.terms_right _ l.types.now l.seats.now c.fill_rows.ensures c.args.steps l.names l.roles (length l.seats.now) _ _
    c.write_sheet.ensures
