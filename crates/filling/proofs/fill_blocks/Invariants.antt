-- `filling::fill_blocks` meets its contract. The blocks before number `k` are filled.
-- Assumes nothing.
use mathlib.Core.Path.{◌≡◌}
use mathlib.Core.List.{List, ◌++◌, flat_map}
use Prim.Native.Nat.{ℕ, ◌<◌, ◌*◌}
use lib.ListN.{length, drop}
use Rattle.chain.specs.Lists.{from}
use Rattle.filling.proofs.fill_blocks.Given as goal

abbrev pub invariant-loop-k : goal.invariant-loop-k
invariant-loop-k g l =
    (blocks : ℕ → List ℕ) → ((k : ℕ) → length (blocks k) ≡ l.width)
    → ((k : ℕ) (old new : _) → k < l.n → length old.now ≡ l.width → goal.F-post g l.f k old tt new → new.now ≡ blocks k)
    → l.body ≡ flat_map blocks (from 0 l.k) ++ drop (l.k * l.width) l.initial.body
