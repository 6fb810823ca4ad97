-- `powers::bounded_power` meets its contract. After `i` places the product is their power, and within the limit. The measure says how many more
-- multiplications there can be, 14 from the first place on, since no power of 2 or more is within the limit from 15 places on.
-- Assumes nothing.
use borrow.Author.Rules.{rules}
use mathlib.Core.Path.{sym, ap, ◌∙◌}
use mathlib.Core.Logic.{inl, inr}
use Prim.Native.Nat.{ℕ, ◌+◌, ◌^◌, ◌<◌}
use native.Mathlib.Nat.{mul-le-mul}
use native.Mathlib.Omega.{arith}
use Rattle.powers.specs.Bounded.{bounded}
use Rattle.powers.proofs.Bounded.{bounded_exactly, bounded-more}
use Rattle.powers.proofs.Powers.{power_one, power_first, power_more, power_stays, power_few}
use Rattle.powers.proofs.bounded_power.Goals as goal

pub returns-then-places-eq0 : goal.returns-then-places-eq0
returns-then-places-eq0 c = sym (bounded_exactly 1 (omega arith)) ∙ ap bounded (sym (power_one _ _ (inl (omega arith))))

pub returns-then-steps-eq0 : goal.returns-then-steps-eq0
returns-then-steps-eq0 c = sym (bounded_exactly 1 (omega arith)) ∙ ap bounded (sym (power_one _ _ (inr (omega arith))))

pub loop-i-init : goal.loop-i-init
loop-i-init c = record { value = sym (power_first _); within = omega arith }

pub overflow_mul-power : goal.overflow_mul-power
overflow_mul-power c =
    search (rules, mul-le-mul {n₁ = c.loop-i.power} {m₁ = c.from-base.result + 1} {n₂ = 16384} {m₂ = 256} (omega arith) (omega arith))

pub returns-then-power-gt16384 : goal.returns-then-power-gt16384
returns-then-power-gt16384 c =
    let l = c.loop-i in
    let base = c.from-base.result + 1 in
    let past : 16384 < base ^ (l.i + 1) = omega (arith, power_more base l.i l.power l.invariant.value) in
    rw (← c.from-base.ensures) (sym (bounded-more _ (power_stays _ base (l.i + 1) _ (omega arith) (omega arith) past)))

pub loop-i-smaller : goal.loop-i-smaller
loop-i-smaller c = search (rules, power_few (c.from-base.result + 1) c.loop-i.i (omega arith) (omega arith))

pub loop-i-preserved : goal.loop-i-preserved
loop-i-preserved c = record { value = power_more _ _ _ c.loop-i.invariant.value; within = omega arith }

pub returns : goal.returns
returns c =
    let base = c.from-base.result + 1 in
    rw (← c.from-base.ensures) (sym (bounded_exactly _ (omega arith)) ∙ ap bounded (c.loop-i.invariant.value ∙ ap (λ (k : ℕ). base ^ k) (omega arith)))
