-- `passes::pass_all` meets its contract. The candidates below `c` are done, and the targets of those that stay marked are noted.
-- Assumes nothing.
use mathlib.Core.Path.{◌≡◌, sym, ap, ◌∙◌}
use Prim.Native.Nat.{ℕ, ◌+◌}
use native.Mathlib.Omega.{arith}
use lib.ListN.{length, get_or}
use Rattle.chain.specs.Search.{rank}
use Rattle.elimination.specs.Marks.{marked?}
use Rattle.passes.proofs.Sweeps.{noted_unmarked, dropped_then, dropped_set, some_left, one_less}
use Rattle.passes.proofs.pass_all.Goals as goal

pub overflow_sub-rest : goal.overflow_sub-rest
overflow_sub-rest c =
    let l = c.loop-c in
    let o : get_or l.marks l.c 0 ≡ 1 = omega (arith, c.if-marks-c-ne1.false) in
    some_left c.args.k.now.source.now c.args.alive.now l.marks l.c l.rest o
    (l.invariant.value ∙ ap (λ (n : ℕ). rank (marked? l.marks) n) (sym l.auto.marks))

pub loop-c-preserved-then-alive-from-ne1 : goal.loop-c-preserved-then-alive-from-ne1
loop-c-preserved-then-alive-from-ne1 c =
    let a = c.args in
    let l = c.loop-c in
    let source = a.k.now.source.now in
    let o : get_or l.marks l.c 0 ≡ 1 = omega (arith, c.if-marks-c-ne1.false) in
    let left : l.rest ≡ rank (marked? l.marks) (length l.marks) = l.invariant.value ∙ ap (λ (n : ℕ). rank (marked? l.marks) n) (sym l.auto.marks) in
    record {
      value = rw (← l.auto.marks) (one_less source a.alive.now l.marks l.c l.rest o left);
      dropped = dropped_then source a.alive.now 0 l.c (l.c + 1) (omega arith) (omega arith) a.marks.now l.marks _ a.left l.rest _ l.invariant.dropped
          (dropped_set source a.alive.now l.marks l.c l.rest o left (rw (← c.from.ensures) c.if-alive-from-ne1.true));
      noted = noted_unmarked a.k.now.target.now l.marks l.present l.c l.invariant.noted;
    }
