-- `filter::strike` meets its contract. The individuals below `j` are struck, where the claim mentions them.
-- Assumes nothing.
use native.Mathlib.Omega.{arith}
use Rattle.chain.proofs.Decisions.{told_yes, told_no}
use Rattle.filter.proofs.Filtering.{struck_start, struck_on, struck_off, struck_all}
use Rattle.filter.proofs.strike.Goals as goal
use Rattle.filter.proofs.strike.Goals.{then-mentions, else-mentions}

pub loop-j-init : goal.loop-j-init
loop-j-init c = struck_start c.mentioned_from-j.ensures

pub loop-j-preserved : goal.loop-j-preserved
loop-j-preserved c =
    elim c.if-mentions.branch [
      | then-mentions w ↦ rw w.fits-is (struck_on c.loop-j.invariant (told_yes _ c.mentions.ensures w.if-mentions.true))
      | else-mentions w ↦ rw w.fits-is (struck_off c.loop-j.invariant (told_no _ c.mentions.ensures w.if-mentions.false))
    ]

pub returns : goal.returns
returns c = struck_all (omega arith) c.loop-j.invariant
