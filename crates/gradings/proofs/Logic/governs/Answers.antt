-- `gradings::Logic::governs` meets its contract.
-- Assumes nothing.
use mathlib.Core.Logic.{inl, inr, ⊎_elim}
use native.Mathlib.Omega.{arith}
use Rattle.chain.proofs.Decisions.{tells_eq}
use Rattle.gradings.proofs.Above.{governs_range, governs-table}
use Rattle.gradings.proofs.Logic.governs.Goals as goal
use Rattle.gradings.proofs.Logic.governs.Goals.{then-t-lt8, else-t-lt8}

pub returns-then-r-lt8 : goal.returns-then-r-lt8
returns-then-r-lt8 c =
    let a = c.args in
    governs-table a.self a.t a.r c.if-t-r.false c.if-r-lt8.true.0 c.if-r-lt8.true.1 _
    (rw (← c.from.ensures, ← c.from-then-r-lt8.ensures) (tells_eq _ 1))

pub returns-else-r-lt8 : goal.returns-else-r-lt8
returns-else-r-lt8 c =
    let a = c.args in
    let outside = governs_range a.self a.t a.r c.if-t-r.false (⊎_elim (λ h. inr h.1) inl c.if-r-lt8.either) in
    elim c.if-t-lt8.branch [
      | then-t-lt8 w ↦ (λ e. absurd (⊎_elim (λ h. grind (arith, h.1, w.t-7-is, e)) (λ h. grind (arith, h, w.if-t-lt8.true)) c.if-r-lt8.either), λ _. outside)
      | else-t-lt8 w ↦ (λ e. absurd (grind (arith, w.if-t-lt8.false, w.t-7-is, e)), λ _. outside)
    ]
