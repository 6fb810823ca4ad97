-- `counts::highest_of` meets its contract. `found` is the highest of the numbers below `i`.
-- Assumes nothing.
use mathlib.Core.Path.{◌≡◌}
use Prim.Native.Nat.{ℕ, ◌<◌}
use Rattle.chain.specs.Lists.{highest, table}
use Rattle.counts.proofs.highest_of.Given as goal

abbrev pub invariant-loop-i : goal.invariant-loop-i
invariant-loop-i g l =
    (f : ℕ → ℕ) → ((i x : ℕ) → i < l.n → goal.F-post g l.count i x → x ≡ f i) → l.found ≡ highest (λ x. x) (table f l.i)
