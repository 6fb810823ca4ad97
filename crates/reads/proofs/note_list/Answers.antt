-- `reads::note_list` meets its contract. What the constraints so far read is noted.
-- Assumes nothing.
use Prim.Native.Nat.{◌<◌}
use native.Mathlib.Omega.{arith}
use lib.ListN.{length}
use Rattle.reads.proofs.Reading.{more-set, list_read_more}
use Rattle.reads.proofs.note_list.Goals as goal

pub loop-constraint-preserved : goal.loop-constraint-preserved
loop-constraint-preserved c =
    let l = c.loop-constraint in
    let t = c.column in
    let h : t.result < length l.seen = omega (arith, t.ensures, c.requires l.constraint-index c.loop-constraint-test.true) in record {
      more = λ x e. more-set l.seen t.result h x (l.invariant.more x e);
      list_read = list_read_more c.args.constraints.now c.args.end l.constraint-index l.seen t.result t.ensures h l.invariant.list_read;
    }
