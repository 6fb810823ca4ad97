-- `classes::thin_by` meets its contract. The candidates below `c` are done.
-- Assumes nothing.
use native.Mathlib.Omega.{arith}
use Rattle.reads.proofs.Classes.{thinning_start, thinning_end, thinning_off, thinning_new, thinning_gone, kept_le, matched_by}
use Rattle.classes.proofs.thin_by.Goals as goal
use Rattle.classes.proofs.thin_by.Goals.{then-table-at-eq1+then-matched, else-table-at-eq1, else-table-at-eq1-via-then-table-at-eq1+else-matched, else-table-at-eq1-via-else-table-at-eq1}

pub loop-c-init : goal.loop-c-init
loop-c-init c =
    let a = c.args in
    let p = a.instance.now in
    thinning_start a.list.now p.rows.now a.j p.count a.table.now a.memory.now c.requires.by_index

pub matched-requires-clause-by_index : goal.matched-requires-clause-by_index
matched-requires-clause-by_index c =
    let a = c.args in
    let p = a.instance.now in
    let l = c.loop-c in
    kept_le a.list.now p.rows.now a.j p.count a.table.now l.table l.memory l.c l.invariant (omega (arith, p.problem.candidates_few))

pub loop-c-preserved : goal.loop-c-preserved
loop-c-preserved c =
    let a = c.args in
    let p = a.instance.now in
    let l = c.loop-c in
    let lt = c.loop-c-test.true in
    elim c.if-table-at-eq1.branch [
      | then-table-at-eq1+then-matched w ↦
          rw (w.table-is, w.memory-is)
          (thinning_gone a.list.now p.rows.now a.j p.count a.table.now l.table l.memory l.c l.invariant _ lt
          p.problem.candidates_few (omega arith)
          (matched_by a.list.now p.rows.now l.c l.memory _ w.matched.result _ w.if-matched.true w.matched.ensures))
      | else-table-at-eq1 w ↦
          elim w.else-table-at-eq1.branch [
            | else-table-at-eq1-via-then-table-at-eq1+else-matched v ↦
                rw (w.table-is, w.memory-is, v.memory-is)
                (thinning_new a.list.now p.rows.now a.j p.count a.table.now l.table l.memory l.c l.invariant _ lt
                v.if-table-at-eq1.true
                (matched_by a.list.now p.rows.now l.c l.memory _ v.matched.result _ v.if-matched.false v.matched.ensures))
            | else-table-at-eq1-via-else-table-at-eq1 v ↦
                rw (w.table-is, w.memory-is, v.memory-is)
                (thinning_off a.list.now p.rows.now a.j p.count a.table.now l.table l.memory l.c l.invariant lt v.if-table-at-eq1.false)
          ]
    ]

pub returns : goal.returns
returns c =
    let a = c.args in
    let p = a.instance.now in
    let l = c.loop-c in
    thinning_end a.list.now p.rows.now a.j p.count a.table.now l.table l.memory l.c (omega (arith, c.loop-c-test.false)) l.invariant
