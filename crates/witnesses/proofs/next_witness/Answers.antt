-- `witnesses::next_witness` meets its contract.
-- Assumes nothing.
use Rattle.witness_boxes.specs.Lent.{tables_of}
use Rattle.witness_boxes.proofs.Search.{boxes_legible, next_witness}
use Rattle.witnesses.proofs.next_witness.Goals as goal

pub invariant_of-search-clause-legible : goal.invariant_of-search-clause-legible
invariant_of-search-clause-legible c =
    let t = c.args.t.now in
    let v = c.make_boxes in
    boxes_legible (tables_of t) t.ready c.args.c c.args.q c.requires.2 v.new.boxes v.ensures.0 v.ensures.1

pub returns : goal.returns
returns c =
    let a = c.args in
    let t = a.t.now in
    let v = c.make_boxes in
    next_witness (tables_of t) t.ready a.c a.q c.requires.2 v.new.boxes v.ensures.0 v.ensures.1 a.marks.now c.requires.0 a.start _
    c.next_hit.ensures
