-- `filter::Filter::fill_tables` meets its contract. The candidates below `c` are entered.
-- Assumes nothing.
use Rattle.filter.proofs.Filtering.{filtered_start, filtered_off, filtered_on}
use Rattle.filter.proofs.Filter.fill_tables.Goals as goal
use Rattle.filter.proofs.Filter.fill_tables.Goals.{then-marks-c-eq1, else-marks-c-eq1}

pub loop-c-init : goal.loop-c-init
loop-c-init c = filtered_start c.requires.empty

pub loop-c-preserved : goal.loop-c-preserved
loop-c-preserved c =
    elim c.if-marks-c-eq1.branch [
      | then-marks-c-eq1 w ↦ rw (w.rows-is, w.table-is) (filtered_on c.loop-c.invariant w.if-marks-c-eq1.true w.enter.ensures)
      | else-marks-c-eq1 w ↦ rw (w.rows-is, w.table-is) (filtered_off c.loop-c.invariant w.if-marks-c-eq1.false)
    ]
