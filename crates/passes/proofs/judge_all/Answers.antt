-- `passes::judge_all` meets its contract. The sources below `a` are judged.
-- Assumes nothing.
use Prim.Native.Nat.{◌+◌}
use native.Mathlib.Omega.{arith}
use Rattle.witness_boxes.specs.Lent.{tables_of}
use Rattle.passes.proofs.Sweeps.{judged_then, judged_kept, judged_set}
use Rattle.passes.proofs.judge_all.Goals as goal

pub loop-a-preserved-then-alive-a-ne1 : goal.loop-a-preserved-then-alive-a-ne1
loop-a-preserved-then-alive-a-ne1 c =
    let l = c.loop-a in
    let T = tables_of c.args.t.now in
    let p = c.args.present.now in (
      l.invariant.0,
      judged_then T p 0 l.a (l.a + 1) (omega arith) (omega arith) c.args.alive.now l.alive l.alive l.invariant.1
          (judged_kept T p l.alive l.a (λ h. absurd (c.if-alive-a-ne1.true h))),
    )

pub loop-a-preserved-then-supported : goal.loop-a-preserved-then-supported
loop-a-preserved-then-supported c =
    let l = c.loop-a in
    let T = tables_of c.args.t.now in
    let p = c.args.present.now in
    let v = c.supported.ensures in (
      v.remembers_2,
      judged_then T p 0 l.a (l.a + 1) (omega arith) (omega arith) c.args.alive.now l.alive l.alive l.invariant.1
          (judged_kept T p l.alive l.a (λ _. v.tells.0 c.if-supported.true)),
    )

pub loop-a-preserved : goal.loop-a-preserved
loop-a-preserved c =
    let l = c.loop-a in
    let T = tables_of c.args.t.now in
    let p = c.args.present.now in
    let v = c.supported.ensures in (
      v.remembers_2,
      judged_then T p 0 l.a (l.a + 1) (omega arith) (omega arith) c.args.alive.now l.alive _ l.invariant.1
          (judged_set T p l.alive l.a (v.tells.1 c.if-supported.false)),
    )
