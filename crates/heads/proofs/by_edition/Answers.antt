-- `heads::by_edition` meets its contract.
-- Assumes nothing.
use mathlib.Core.Path.{sym}
use Rattle.heads.proofs.Editions.{edition_second, edition_other}
use Rattle.heads.proofs.by_edition.Goals as goal

pub returns-then-b-eq2 : goal.returns-then-b-eq2
returns-then-b-eq2 c = sym (edition_second _ _ _ c.if-b-eq2.true)

pub returns-else-b-eq2 : goal.returns-else-b-eq2
returns-else-b-eq2 c = sym (edition_other _ _ _ c.if-b-eq2.false)
