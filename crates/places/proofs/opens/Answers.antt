-- `places::opens` meets its contract.
-- Assumes nothing.
use Rattle.chain.proofs.Decisions.{tells_no, tells_eq, told_yes, told_no}
use Rattle.places.proofs.Places.{opens_not, opens_where}
use Rattle.places.proofs.opens.Goals as goal

pub returns-then-has_place : goal.returns-then-has_place
returns-then-has_place c =
    opens_where c.args.terms.now c.args.i c.requires.0 _ (told_yes _ c.has_place.ensures c.if-has_place.true)
    (rw (← c.requires.1, ← c.from.ensures) (tells_eq _ _))

pub returns-else-has_place : goal.returns-else-has_place
returns-else-has_place c =
    rw c.if-has_place.false (tells_no (opens_not c.args.terms.now c.args.i c.requires.0 (told_no _ c.has_place.ensures c.if-has_place.false)))
