-- Laws of reading a placement: the seats that were read are those that the bytes hold.
-- Assumes nothing.
use mathlib.Core.Path.{◌≡◌, sym, ap, ◌∙◌}
use mathlib.Core.Logic.{dite}
use mathlib.Core.List.{List}
use Prim.Native.Nat.{ℕ, ◌+◌, ◌*◌, ◌≤◌, ◌<◌}
use native.Mathlib.Decide.{ℕ_discrete}
use native.Mathlib.Omega.{arith}
use lib.ListN.{length, get_or, set, take}
use lib.Seq.{get_or-set_same, get_or-set_other, get_or-take, length-take-le, ext_get_or}
use Rattle.chain.proofs.Lists.{length-table, get_or-table}
use Rattle.encoding.specs.Words.{word_at}
use Rattle.decider.specs.Deciding.{placement_in}

-- one seat more
pub placement-next : (b seats : List ℕ) (j v : ℕ) → j < length seats → v ≡ word_at b (2 * j) → ((i : ℕ) → i < j → get_or seats i 0 ≡ word_at b (2 * i))
    → (i : ℕ) → i < j + 1 → get_or (set seats j v) i 0 ≡ word_at b (2 * i)
placement-next b seats j v h e w i l =
    dite (ℕ_discrete i j)
    (λ q. ap (λ (k : ℕ). get_or (set seats j v) k 0) q ∙ get_or-set_same seats j v 0 h ∙ e ∙ ap (λ (k : ℕ). word_at b (2 * k)) (sym q))
    (λ n. get_or-set_other seats j i v 0 n ∙ w i (omega arith))

-- all of them
pub placement_read : (b seats : List ℕ) (n : ℕ) → n ≤ length seats → ((i : ℕ) → i < n → get_or seats i 0 ≡ word_at b (2 * i)) → take n seats ≡ placement_in b n
placement_read b seats n h w =
    let l = length-take-le n seats h in
    ext_get_or 0 (take n seats) (placement_in b n) (l ∙ sym (length-table (λ j. word_at b (2 * j)) n)) (λ i k.
    let m : i < n = omega arith in
    get_or-take n seats i 0 m ∙ w i m ∙ sym (get_or-table (λ j. word_at b (2 * j)) n i 0 m))
