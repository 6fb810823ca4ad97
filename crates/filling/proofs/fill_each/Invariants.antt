-- `filling::fill_each` meets its contract. The bytes before number `i` are filled.
-- Assumes nothing.
use mathlib.Core.Path.{◌≡◌}
use mathlib.Core.List.{◌++◌}
use Prim.Native.Nat.{ℕ, ◌<◌}
use lib.ListN.{length, drop}
use Rattle.chain.specs.Lists.{table}
use Rattle.filling.proofs.fill_each.Given as goal

abbrev pub invariant-loop-i : goal.invariant-loop-i
invariant-loop-i g l =
    (entry : ℕ → ℕ) → ((i r : ℕ) → i < length l.initial.body → goal.F-post g l.f i r → r ≡ entry i) → l.body ≡ table entry l.i ++ drop l.i l.initial.body
