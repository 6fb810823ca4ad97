-- `placer::fits_seated` meets its contract. The individuals below `i` are compatible.
-- Assumes nothing.
use native.Mathlib.Omega.{arith}
use borrow.Author.Count.{below_more}
use Rattle.chain.proofs.Decisions.{tells_yes, tells_no, told_yes, told_no}
use Rattle.placer.proofs.fits_seated.Goals as goal

pub returns-then-not-compatible : goal.returns-then-not-compatible
returns-then-not-compatible c = tells_no (λ h. told_no _ c.compatible.ensures c.if-not-compatible.true (rw c.from.ensures (h c.loop-i.i c.loop-i-test.true)))

pub loop-i-preserved : goal.loop-i-preserved
loop-i-preserved c = below_more _ c.loop-i.i c.loop-i.invariant (rw (← c.from.ensures) (told_yes _ c.compatible.ensures c.if-not-compatible.false))

pub returns : goal.returns
returns c = tells_yes (λ x l. c.loop-i.invariant x (omega arith))
