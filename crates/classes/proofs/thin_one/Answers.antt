-- `classes::thin_one` meets its contract.
-- Assumes nothing.
use Rattle.chain.proofs.Lists.{zeros-at}
use Rattle.reads.proofs.Classes.{thinned_at}
use Rattle.classes.proofs.thin_one.Goals as goal

pub thin_by-requires-clause-by_index : goal.thin_by-requires-clause-by_index
thin_by-requires-clause-by_index c = zeros-at 16384

pub returns : goal.returns
returns c =
    let p = c.args.instance.now in
    let r = c.columns_read-list in
    thinned_at p.network.logic p.network.constraints.now p.network.ends.now p.count p.rows.now p.individuals p.network.columns p.problem
    c.args.j c.requires.0 r.ensures.0 r.ensures.1 r.result.now r.ensures.2 c.args.table.now _ c.thin_by.ensures
