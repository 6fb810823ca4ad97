-- `levels::note_claims` meets its contract. The levels are those of the claims below `i`.
-- Assumes nothing.
use Rattle.levels.specs.Levels.{LevelsOf}
use Rattle.levels.proofs.note_claims.Given as goal

abbrev pub invariant-loop-i : goal.invariant-loop-i
invariant-loop-i l = LevelsOf l.logic l.links l.i l.levels
