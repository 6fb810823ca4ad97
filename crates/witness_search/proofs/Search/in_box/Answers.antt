-- `witness_search::Search::in_box` meets its contract.
-- Assumes nothing.
use mathlib.Core.Path.{◌≡◌}
use native.Mathlib.Omega.{arith}
use Rattle.std.proofs.Common.{Some}
use Rattle.witness_boxes.specs.Search.{span_at}
use Rattle.witness_search.proofs.Search.in_box.Goals as goal

pub bounds-requires : goal.bounds-requires
bounds-requires c =
    let S = c.args.self.now in
    let e : span_at S.boxes.now c.from.result ≡ Some c.in-Some.span = c.in-Some.is in
    let p = S.legible c.from.result c.in-Some.span (omega (arith, c.from.ensures, c.requires)) e in
    (p.0, p.1)
