-- `grid_rows::write_grid` meets its contract. The grid begins with the rows of the elements before `e`.
-- Assumes nothing.
use native.Mathlib.Omega.{arith}
use Rattle.chain.proofs.Blocks.{block_fits}
use Rattle.columns.proofs.Rows.{rows_none, rows_more}
use Rattle.grid_rows.proofs.write_grid.Goals as goal

pub loop-e-init : goal.loop-e-init
loop-e-init c = rows_none _ _ _

pub overflow_mul-start : goal.overflow_mul-start
overflow_mul-start c = omega (arith, block_fits c.args.t c.loop-e.e c.args.n c.loop-e-test.true)

pub overflow_add-end : goal.overflow_add-end
overflow_add-end c = omega (arith, block_fits c.args.t c.loop-e.e c.args.n c.loop-e-test.true)

pub slice_bounds-write_row-count : goal.slice_bounds-write_row-count
slice_bounds-write_row-count c = omega (arith, block_fits c.args.t c.loop-e.e c.args.n c.loop-e-test.true)

pub loop-e-preserved : goal.loop-e-preserved
loop-e-preserved c =
    let t = c.loop-e in
    rows_more c.args.columns.now c.args.t t.e t.grid c.args.grid.now c.write_row.new.row t.invariant
    (omega (arith, block_fits c.args.t t.e c.args.n c.loop-e-test.true)) c.write_row.ensures
