-- `eliminator::enter_all` meets its contract. The candidates below `c` are entered, and each index names classes that there are.
-- Assumes nothing.
use Prim.Native.Nat.{ℕ}
use native.Mathlib.Omega.{arith}
use lib.ListN.{replicate}
use Rattle.chain.proofs.Lists.{zeros-at}
use Rattle.entries.specs.Lent.{grading_of, rules_in}
use Rattle.entries.proofs.Filling.{entered_none, index-none}
use Rattle.eliminator.proofs.enter_all.Goals as goal

pub loop-c-init : goal.loop-c-init
loop-c-init c =
    let a = c.args in
    let t = a.theory.now in
    let empty = λ (k : ℕ). index-none (replicate 16384 0) k (zeros-at 16384) in
    record {
      entered = entered_none (grading_of t) (rules_in t) t.slots.now a.sources.now a.targets.now a.marks.now c.requires.1 c.requires.2;
      first = λ i. omega (arith, empty a.sources.now.count i);
      second = λ i. omega (arith, empty a.targets.now.count i);
    }

pub loop-c-preserved : goal.loop-c-preserved
loop-c-preserved c =
    let l = c.loop-c in
    let names = c.enter.ensures.names in
    record {
      entered = rw c.from-left.ensures (c.enter.ensures.entered l.left l.invariant.entered);
      first = names.0 l.invariant.first;
      second = names.1 l.invariant.second;
    }
