-- Laws of stretches: how long one is, and that one follows what stands before it.
-- Assumes nothing.
use mathlib.Core.Path.{◌≡◌, ◌∙◌}
use mathlib.Core.List.{List, ◌++◌}
use Prim.Native.Nat.{ℕ, ◌+◌, ◌-◌, ◌≤◌, ◌<◌}
use native.Mathlib.Nat.{add-sub_cancel_left}
use native.Mathlib.Decide.{dec_lt}
use native.Mathlib.Omega.{arith}
use lib.ListN.{length, get_or, take, drop, length-take, length-drop, get_or-eq_default}
use lib.Seq.{take-add, get_or-take, get_or-drop}
use Rattle.encoding.specs.Words.{Bytes}
use Rattle.encoding.specs.Stretches.{stretch}

pub length-stretch : (b : List ℕ) (from to : ℕ) → to ≤ length b → length (stretch b from to) ≡ to - from
length-stretch b from to h = rw (length-take, length-drop) (omega arith)

-- of bytes it is bytes
pub bytes-stretch : (b : List ℕ) (from to : ℕ) → Bytes b → Bytes (stretch b from to)
bytes-stretch b from to h i = go (dec_lt i (to - from))
  where
    go : Dec (i < to - from) → get_or (stretch b from to) i 0 < 256
    go (yes l) = rw (get_or-take (to - from) (drop from b) i 0 l, get_or-drop from b i 0) (h (from + i))
    go (no n) =
        let short : length (stretch b from to) ≤ i = rw (length-take, length-drop) (omega arith) in
        rw (get_or-eq_default (stretch b from to) 0 short) (omega arith)

-- of n bytes
module _ (b : List ℕ) (from n : ℕ) where
  pub stretch-length : from + n ≤ length b → length (stretch b from (from + n)) ≡ n
  stretch-length h = length-stretch b from (from + n) h ∙ add-sub_cancel_left from n

  pub stretch-next : take (from + n) b ≡ take from b ++ stretch b from (from + n)
  stretch-next = rw add-sub_cancel_left (take-add from n b)
