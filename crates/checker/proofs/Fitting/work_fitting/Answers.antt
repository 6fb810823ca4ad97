-- `checker::Fitting::work_fitting` meets its contract. The columns are filled, copied out row by row, and judged.
-- Assumes nothing.
use native.Mathlib.Omega.{arith}
use Rattle.book.proofs.Opening.{opened_accepted}
use Rattle.book.proofs.Reading.{right-few}
use Rattle.checker.proofs.Working.{size_is, fits_grid}
use Rattle.checker.proofs.Fitting.work_fitting.Goals as goal

pub write_grid-requires : goal.write_grid-requires
write_grid-requires c =
    let f = c.args.self.now in
    let right = opened_accepted _ _ f.book.opened in
    let size = size_is _ _ _ right _ f.fits _ c.count_terms.ensures in
    let few = right-few _ _ right in
    (omega arith, f.fits.head_right.1.1.1.1.0, omega arith)

pub returns : goal.returns
returns c =
    let f = c.args.self.now in
    let right = opened_accepted _ _ f.book.opened in
    let k = c.count_terms.ensures in
    let rows = fits_grid _ _ _ right _ f.fits _ k _ c.fill_columns.ensures in
    let size = size_is _ _ _ right _ f.fits _ k in
    record { value = c.verdict_by.ensures; grid_after = rw (c.write_grid.ensures, rows, size) }
