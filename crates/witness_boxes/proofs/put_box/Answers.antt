-- `witness_boxes::put_box` meets its contract.
-- Assumes nothing.
use native.Mathlib.Omega.{arith}
use Rattle.witness_boxes.specs.Lent.{tables_of}
use Rattle.witness_boxes.proofs.Search.{boxed_made}
use Rattle.witness_boxes.proofs.put_box.Goals as goal

pub returns-2 : goal.returns-2
returns-2 c =
    let a = c.args in
    let b = c.add_box-span in
    let s = b.ensures.span in (
      rw (b.ensures.spans.0, c.from-at.ensures) (boxed_made (tables_of a.t.now) a.c a.q a.boxes.now a.x (omega arith) c.requires.boxed.0 c.wants-level.result
          (rw (← c.quantifier_of.ensures) c.wants-level.ensures) (omega (arith, c.if-t-level.false)) b.new.boxes.bounds b.new.boxes.count
          b.ensures.narrowed b.result s.0 s.1 s.2),
      omega (arith, b.ensures.upper_bound, c.requires.boxed.1),
      b.ensures.spans.1,
    )
