-- `filter::Filter::allow_row` meets its contract. The individuals below `j` have their byte for the candidate.
-- Assumes nothing.
use mathlib.Core.Path.{◌≡◌, refl}
use mathlib.Core.Bool.{Bool, true, false}
use mathlib.Core.Logic.{◌↔◌}
use native.Mathlib.Omega.{arith}
use mir.Val.{bool_byte}
use Rattle.filter.proofs.Filtering.{column_start, column_turn}
use Rattle.filter.proofs.Filter.allow_row.Goals as goal

is_set : (b : Bool) → (bool_byte b ≡ 1) ↔ (b ≡ true)
is_set true = (λ _. refl, λ _. refl)
is_set false = (λ e. absurd (omega arith), λ e. cc)

pub loop-j-init : goal.loop-j-init
loop-j-init c = column_start

pub loop-j-preserved : goal.loop-j-preserved
loop-j-preserved c =
    let l = c.loop-j in
    let f = c.fitting-fits.ensures l.j (omega arith) in
    let a = c.admits.ensures in
    let s = is_set c.admits.result in
    column_turn (omega arith) (omega (arith, l.auto.table))
    (rw c.from.ensures (λ e. let u = a.0 (s.0 e) in (f.0 u.0, u.1), λ h. s.1 (a.1 (f.1 h.0, h.1)))) l.invariant
