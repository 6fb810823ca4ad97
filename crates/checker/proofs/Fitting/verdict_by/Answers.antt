-- `checker::Fitting::verdict_by` meets its contract.
-- Assumes nothing.
use Rattle.book.proofs.Opening.{opened_accepted}
use Rattle.checker.proofs.Working.{fits_covered, fits_verdict}
use Rattle.checker.proofs.Fitting.verdict_by.Goals as goal

pub verdict-requires : goal.verdict-requires
verdict-requires c =
    let f = c.args.self.now in
    rw (c.links_at-links.ensures, c.individuals_at-individuals.ensures, c.end_at-end.ensures)
    (fits_covered _ _ _ (opened_accepted _ _ f.book.opened) _ f.fits _ _ _ _
    c.rules.ensures c.pairs.ensures c.memberships.ensures c.links.ensures)

pub returns : goal.returns
returns c =
    let f = c.args.self.now in
    rw (c.verdict.ensures, c.links_at-links.ensures, c.individuals_at-individuals.ensures, c.end_at-end.ensures)
    (fits_verdict _ _ _ (opened_accepted _ _ f.book.opened) _ f.fits _ _ _ _
    c.rules.ensures c.pairs.ensures c.memberships.ensures c.links.ensures _ c.requires)
