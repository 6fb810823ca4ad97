-- `supports::support` meets its contract. The box holds just the rows that are compatible.
-- Assumes nothing.
use native.Mathlib.Omega.{arith}
use Rattle.boxes.proofs.Boxes.{box_of_lem}
use Rattle.supports.proofs.Arcs.{tried_of}
use Rattle.supports.proofs.support.Goals as goal

pub make_box-m-requires : goal.make_box-m-requires
make_box-m-requires c =
    let w = c.args.instance.now in
    let p = c.requires.j_lt_individuals in (
      omega (arith, p.0, w.problem.individuals_few),
      omega (arith, p.1, w.problem.individuals_few),
      omega (arith, c.row.ensures.long, w.network.wired.few),
      rw c.row.ensures.is p.4,
      p.5,
    )

pub seek_around-requires-clause-by_index : goal.seek_around-requires-clause-by_index
seek_around-requires-clause-by_index c =
    let t = c.make_box-m in
    let w = c.args.instance.now in
    let o = box_of_lem w.network.logic w.network.columns _ c.args.bounds.now _ t.result t.ensures.narrowed (omega arith) in
    λ x h. omega (arith, o.columns x h, w.network.wired.few)

pub returns : goal.returns
returns c =
    let a = c.args in
    let t = c.make_box-m in
    tried_of a.instance.now a.table.now c.requires.domains a.j a.i a.c c.requires.j_lt_individuals.1 c.seek_around.result _ a.bounds.now _ t.result
    c.row.ensures.is t.ensures.narrowed (omega arith) c.seek_around.ensures
