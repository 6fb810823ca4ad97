-- `witnesses::backed` meets its contract.
-- Assumes nothing.
use native.Mathlib.Omega.{arith}
use Rattle.witness_boxes.specs.Lent.{tables_of}
use Rattle.witness_boxes.proofs.Search.{found-remembers}
use Rattle.witnesses.proofs.backed.Goals as goal

pub returns-in-Some-clause-remembers_2 : goal.returns-in-Some-clause-remembers_2
returns-in-Some-clause-remembers_2 c =
    let a = c.args in
    let p = c.requires.in_bounds in
    let e = c.from-known.ensures in
    found-remembers (tables_of a.t.now) a.marks.now a.memory.now c.requires.remembers a.c a.q p.1 p.2
    (rw (← e) (c.still_marked.ensures.1 c.if-still_marked.false)) c.in-Some.w (rw (← e) c.in-Some.ensures) p.0 (omega (arith, p.1, p.3)) (omega arith)
