-- `witness_search::Search::reached` meets its contract.
-- Assumes nothing.
use Rattle.witness_search.proofs.Search.reached.Goals as goal

pub bounds-requires : goal.bounds-requires
bounds-requires c =
    let p = c.args.self.now.legible c.args.x c.in-Some.span c.requires c.in-Some.is in
    (p.0, p.1)
