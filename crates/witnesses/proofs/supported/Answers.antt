-- `witnesses::supported` meets its contract. The slots below `q` have marked witnesses.
-- Assumes nothing.
use borrow.Author.Count.{below_more}
use Rattle.chain.proofs.Decisions.{told_yes}
use Rattle.witnesses.proofs.supported.Goals as goal

pub loop-q-preserved : goal.loop-q-preserved
loop-q-preserved c =
    let b = c.backed.ensures in
    (b.remembers_2, below_more _ c.loop-q.q c.loop-q.invariant.1 (told_yes _ b.tells c.if-not-backed.false))
