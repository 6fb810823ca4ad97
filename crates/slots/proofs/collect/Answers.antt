-- `slots::collect` meets its contract. The quantified terms before term `i` are written.
-- Assumes nothing.
use mathlib.Core.Path.{◌≡◌, subst}
use Prim.Native.Nat.{ℕ}
use native.Mathlib.Omega.{arith}
use lib.ListN.{length}
use Rattle.sections.specs.Terms.{terms_of}
use Rattle.sections.proofs.Terms.{length-terms}
use Rattle.slots.specs.Collecting.{SlotsCollected}
use Rattle.slots.proofs.Collecting.{slots-few, slots_of}
use Rattle.slots.proofs.collect.Goals as goal

pub returns : goal.returns
returns c =
    let l = c.loop-i in
    let e : l.i ≡ length (terms_of c.args.terms.now) = omega (arith, length-terms c.args.terms.now) in
    let C = subst (λ (b : ℕ). SlotsCollected (terms_of c.args.terms.now) l.slots b l.m) e l.invariant in
    let m = slots-few (terms_of c.args.terms.now) l.slots l.m C in
    (omega arith, slots_of (terms_of c.args.terms.now) l.slots l.m C (omega (arith, l.auto.slots)))
