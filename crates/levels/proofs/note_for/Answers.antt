-- `levels::note_for` meets its contract.
-- Assumes nothing.
use mathlib.Core.Path.{refl}
use mathlib.Core.Logic.{inl}
use Rattle.chain.proofs.Decisions.{told_yes, told_no}
use Rattle.levels.proofs.Levels.{noted-max}
use Rattle.levels.proofs.note_for.Goals as goal

pub returns-then-governs : goal.returns-then-governs
returns-then-governs c =
    let a = c.args in
    rw (c.max.ensures, c.from.ensures, c.from-then-governs.ensures, c.from-then-governs-2.ensures)
    (noted-max a.logic a.t a.claim.role a.claim.grade _ a.levels.now (told_yes _ c.governs.ensures c.if-governs.true))

pub returns-else-governs : goal.returns-else-governs
returns-else-governs c = inl (told_no _ c.governs.ensures c.if-governs.false, refl)
