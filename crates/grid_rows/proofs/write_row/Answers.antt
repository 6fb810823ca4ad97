-- `grid_rows::write_row` meets its contract. The row begins with the cells of the terms before `i`.
-- Assumes nothing.
use mathlib.Core.Path.{ap, ◌∙◌}
use mathlib.Core.List.{List}
use Prim.Native.Nat.{ℕ}
use native.Mathlib.Omega.{arith}
use lib.ListN.{set}
use Rattle.chain.proofs.Lists.{zero_filled, set_filled, table_filled}
use Rattle.columns.specs.Columns.{cell_at}
use Rattle.grid_rows.proofs.write_row.Goals as goal

pub loop-i-init : goal.loop-i-init
loop-i-init c = zero_filled _ _

pub loop-i-preserved : goal.loop-i-preserved
loop-i-preserved c =
    let i = c.loop-i.i in
    let grade : ℕ → ℕ = λ j. cell_at c.args.columns.now j c.args.e in
    ap (λ (l : List ℕ). set l i (grade i)) c.loop-i.invariant ∙ set_filled grade c.args.row.now i (omega arith)

pub returns : goal.returns
returns c = table_filled (λ j. cell_at c.args.columns.now j c.args.e) c.loop-i.i c.args.row.now c.loop-i.row c.loop-i.invariant (omega arith)
