-- `sweeps::settle_in` meets its contract. Each sweep but the last leaves fewer marks.
-- Assumes nothing.
use mathlib.Core.Path.{sym, subst}
use Prim.Native.Nat.{ℕ}
use native.Mathlib.Omega.{arith}
use lib.ListN.{length}
use Rattle.passes.specs.Sweeps.{Counted, State}
use Rattle.passes.specs.Lent.{classes_of}
use Rattle.passes.proofs.Sweeps.{remembers-none, reduced-none, reduced-then, settled}
use Rattle.sweeps.proofs.settle_in.Goals as goal

pub loop-rest-init : goal.loop-rest-init
loop-rest-init c =
    let a = c.args in
    let K = classes_of a.k.now in
    let P = c.note_all in (
      record {
        counted = c.requires.counted;
        sources = c.note_all-2.ensures;
        targets = P.ensures;
        remembers = remembers-none K P.new.seen a.memory.now c.requires.no_memory;
      },
      reduced-none K a.marks.now,
    )

pub sweep-next-requires-clause-state : goal.sweep-next-requires-clause-state
sweep-next-requires-clause-state c =
    let l = c.loop-rest in
    subst (λ (z : ℕ). State (classes_of c.args.k.now) z l.marks l.memory l.alive l.present l.rest) (sym l.auto.marks) l.invariant.0

pub returns-then-next-rest : goal.returns-then-next-rest
returns-then-next-rest c =
    let a = c.args in
    let l = c.loop-rest in
    let W = c.sweep-next in
    settled (classes_of a.k.now) (length a.marks.now) a.marks.now l.marks W.new.marks l.rest W.result (omega arith) l.invariant.1
    (subst (λ (z : ℕ). Counted z W.new.marks W.result) l.auto.marks W.ensures.state_2.counted) W.ensures.swept

pub loop-rest-smaller : goal.loop-rest-smaller
loop-rest-smaller c = omega (arith, c.sweep-next.ensures.swept.fewer)

pub loop-rest-preserved : goal.loop-rest-preserved
loop-rest-preserved c =
    let a = c.args in
    let l = c.loop-rest in
    let W = c.sweep-next in
    let n = W.new in (
      subst (λ (z : ℕ). State (classes_of a.k.now) z n.marks n.memory n.alive n.present W.result) l.auto.marks W.ensures.state_2,
      reduced-then (classes_of a.k.now) a.marks.now l.marks n.marks l.invariant.1 W.ensures.swept.reduced,
    )
