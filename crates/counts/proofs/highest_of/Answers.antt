-- `counts::highest_of` meets its contract. `found` is the highest of the numbers below `i`.
-- Assumes nothing.
use native.Mathlib.Omega.{arith}
use Rattle.chain.proofs.Lists.{highest-none, highest-table}
use Rattle.counts.proofs.highest_of.Goals as goal

pub loop-i-init : goal.loop-i-init
loop-i-init g c = λ f p. highest-none (λ x. x) f

pub loop-i-preserved : goal.loop-i-preserved
loop-i-preserved g c =
    let l = c.loop-i in
    λ f p. let t = l.invariant f p in
    let u = p l.i _ c.loop-i-test.true c.count.ensures in
    let more = highest-table (λ x. x) f l.i in
    grind (arith, t, u, more)
