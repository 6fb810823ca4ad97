-- `levels::note_claim` meets its contract. The claim was noted for the roles below `t`.
-- Assumes nothing.
use Rattle.levels.specs.Levels.{LevelsUpTo}
use Rattle.levels.proofs.note_claim.Given as goal

abbrev pub invariant-loop-t : goal.invariant-loop-t
invariant-loop-t l = LevelsUpTo l.logic l.links l.i l.t l.levels
