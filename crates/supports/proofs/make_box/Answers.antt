-- `supports::make_box` meets its contract.
-- Assumes nothing.
use Rattle.boxes.proofs.Boxes.{narrowed_then}
use Rattle.supports.proofs.make_box.Goals as goal

pub returns-clause-narrowed : goal.returns-clause-narrowed
returns-clause-narrowed c =
    let p = c.args.network.now in
    let t = c.put_bounds-m in
    let u = c.put_bounds in
    rw (← c.between.ensures.is, ← c.between-2.ensures.is)
    (narrowed_then p.logic p.columns _ _ c.args.bounds.now 0 _ t.result _ u.result t.ensures.narrowed u.ensures.narrowed)
