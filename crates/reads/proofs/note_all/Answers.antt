-- `reads::note_all` meets its contract. What the constraints between `j` and those below `i` read is noted.
-- Assumes nothing.
use borrow.Author.Count.{below_none}
use native.Mathlib.Omega.{arith}
use Rattle.reads.proofs.Reading.{read_self, read_other}
use Rattle.reads.proofs.note_all.Goals as goal
use Rattle.reads.proofs.note_all.Goals.{then-i-j, else-i-j}

pub loop-i-init : goal.loop-i-init
loop-i-init c = below_none _

pub loop-i-preserved : goal.loop-i-preserved
loop-i-preserved c =
    let n = c.args.network.now in
    let l = c.loop-i in
    elim c.if-i-j.branch [
      | then-i-j w ↦ rw w.seen-is (read_other n.constraints.now n.ends.now c.args.j l.i l.seen _ _ _ _
          w.between.ensures.is w.between-then-i-j.ensures.is
          w.note_list.ensures.more w.note_list-then-i-j.ensures.more
          l.invariant w.note_list.ensures.list_read w.note_list-then-i-j.ensures.list_read)
      | else-i-j w ↦ rw w.seen-is (read_self n.constraints.now n.ends.now c.args.j l.i l.seen w.if-i-j.false l.invariant)
    ]

pub returns : goal.returns
returns c = λ i l. c.loop-i.invariant i (omega (arith, c.loop-i-test.false))
