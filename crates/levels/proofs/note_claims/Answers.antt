-- `levels::note_claims` meets its contract. The levels are those of the claims below `i`.
-- Assumes nothing.
use Rattle.levels.proofs.Levels.{levels_none}
use Rattle.levels.proofs.note_claims.Goals as goal

pub loop-i-init : goal.loop-i-init
loop-i-init c = levels_none c.args.logic c.args.links.now c.args.levels.now c.requires.2
