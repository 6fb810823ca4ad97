-- `checker::Fitting::fill_columns` meets its contract.
-- Assumes nothing.
use Rattle.book.proofs.Opening.{opened_accepted}
use Rattle.checker.proofs.Working.{fits_workable, fits_filled}
use Rattle.checker.proofs.Fitting.fill_columns.Goals as goal

pub invariant_of-source : goal.invariant_of-source
invariant_of-source c =
    let f = c.args.self.now in
    record {
      workable = rw (c.links_at-links.ensures, c.individuals_at-individuals.ensures)
          (fits_workable _ _ _ (opened_accepted _ _ f.book.opened) _ f.fits _ _ c.terms.ensures c.logic.ensures.s_value);
    }

pub returns : goal.returns
returns c =
    let f = c.args.self.now in
    fits_filled _ _ _ (opened_accepted _ _ f.book.opened) _ f.fits _ _ c.terms.ensures c.logic.ensures.s_value _
    (rw (c.links_at-links.ensures, c.individuals_at-individuals.ensures) at c.work_out.ensures)
