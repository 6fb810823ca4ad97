-- `network::Network::all_met` meets its contract. The constraints so far are met.
-- Assumes nothing.
use native.Mathlib.Omega.{arith}
use borrow.Author.Count.{below_none, below_more}
use Rattle.chain.proofs.Decisions.{tells_yes, tells_no, told_yes, told_no}
use Rattle.network.proofs.Network.all_met.Goals as goal

pub loop-constraint-init : goal.loop-constraint-init
loop-constraint-init c = below_none _

pub loop-constraint-preserved : goal.loop-constraint-preserved
loop-constraint-preserved c = below_more _ c.loop-constraint.constraint-index c.loop-constraint.invariant (told_yes _ c.met.ensures c.if-not-met.false)

pub returns-then-not-met : goal.returns-then-not-met
returns-then-not-met c =
    rw (← c.between-constraint-items.ensures.is)
    (tells_no (λ h. told_no _ c.met.ensures c.if-not-met.true (h c.loop-constraint.constraint-index c.loop-constraint-test.true)))

pub returns : goal.returns
returns c =
    rw (← c.between-constraint-items.ensures.is)
    (tells_yes (λ y l. c.loop-constraint.invariant y (omega (arith, c.loop-constraint-test.false))))
