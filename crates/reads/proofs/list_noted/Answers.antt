-- `reads::list_noted` meets its contract. The columns below `t` are listed.
-- Assumes nothing.
use native.Mathlib.Omega.{arith}
use Rattle.reads.proofs.Reading.{listed_unread, listed_read}
use Rattle.reads.proofs.list_noted.Goals as goal
use Rattle.reads.proofs.list_noted.Goals.{then-seen-t, else-seen-t}

pub loop-t-preserved : goal.loop-t-preserved
loop-t-preserved c =
    let l = c.loop-t in
    elim c.if-seen-t.branch [
      | then-seen-t w ↦ rw (w.list-is, w.m-is) (listed_read c.args.seen.now l.t l.m l.list l.invariant c.loop-t-test.true (omega arith))
      | else-seen-t w ↦ rw (w.list-is, w.m-is) (listed_unread c.args.seen.now l.t l.m l.list l.invariant w.if-seen-t.false)
    ]
