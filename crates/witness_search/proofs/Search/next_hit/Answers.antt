-- `witness_search::Search::next_hit` meets its contract. No target from `start` up to `d` is a hit.
-- Assumes nothing.
use mathlib.Core.Logic.{dite}
use native.Mathlib.Decide.{dec_lt}
use native.Mathlib.Omega.{arith}
use Rattle.elimination.proofs.Marks.{marked_lt}
use Rattle.witness_search.proofs.Search.next_hit.Goals as goal

pub loop-d-preserved-then-gap-gt0 : goal.loop-d-preserved-then-gap-gt0
loop-d-preserved-then-gap-gt0 c =
    let S = c.args.self.now in
    let l = c.loop-d in
    λ e h k hit. dite (dec_lt e l.d) (λ b. l.invariant e h b hit)
    (λ b. c.leap-gap.ensures.0 e (omega arith) k (omega (arith, marked_lt S.marks.now e hit.0, S.marked)) hit.1)
