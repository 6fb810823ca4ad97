-- `rule_marks::mark_by_rules` meets its contract.
-- Assumes nothing.
use mathlib.Core.Path.{◌≡◌, refl}
use mathlib.Core.Bool.{Bool, true, false}
use mathlib.Core.Logic.{◌↔◌}
use Prim.Native.Nat.{ℕ, ◌≤◌}
use native.Mathlib.Omega.{arith}
use mir.Val.{bool_byte}
use borrow.Author.Rules.{rules}
use Rattle.chain.specs.Decisions.{Tells}
use Rattle.chain.proofs.Ranges.{all-tells}
use Rattle.rule_marks.proofs.mark_by_rules.Goals as goal

-- the mark of what is told
marked : {A : Type 0} (b : Bool) (x : ℕ) → x ≡ bool_byte b → Tells b A → (x ≤ 1) × ((x ≡ 1) ↔ A)
marked true x e t = (omega arith, (λ _. t.0 refl, λ _. e))
marked false x e t = (omega arith, (λ f. absurd (omega arith), λ a. absurd (t.1 refl a)))

pub returns : goal.returns
returns c =
    marked _ _ c.from.ensures (all-tells _ _ _ _ _ c.all-obeys.ensures.ran (λ i f k. search rules) (λ i f k. search rules))
