-- What is told of a list by its blocks, by index; and of a block, entry by entry.
-- Assumes nothing.
use mathlib.Core.Path.{◌≡◌, subst, ◌∙◌}
use mathlib.Core.Logic.{dite}
use mathlib.Core.Bool.{Bool, true, ◌&&◌}
use mathlib.Core.List.{List}
use Prim.Native.Nat.{ℕ, ◌+◌, ◌-◌, ◌<◌, ◌≤◌}
use native.Mathlib.Decide.{dec_lt}
use native.Mathlib.Omega.{arith}
use lib.ListN.{length, get_or, drop}
use borrow.Author.Count.{below_none, below_more}
use Rattle.std.proofs.Common.{⊎_elim}
use Rattle.std.proofs.lemmas.Bool.{and_parts, and_cases}
use Rattle.std.proofs.lemmas.List.{get_or-take, get_or-drop}
use Rattle.encoding.specs.Stretches.{stretch}
use Rattle.encoding.proofs.Stretches.{length-stretch}
use Rattle.chain.specs.Decisions.{Tells}
use Rattle.chain.proofs.Decisions.{tells_yes}

-- ---- entry by entry

module _ (P : ℕ → Type 0) where
  -- before the first entry
  pub tells_none : Tells true ((k : ℕ) → k < 0 → P k)
  tells_none = tells_yes (below_none P)

  -- the entries below i, and the next
  pub tells_more : (i : ℕ) (r t : Bool) → Tells r ((k : ℕ) → k < i → P k) → Tells t (P i) → Tells (r && t) ((k : ℕ) → k < i + 1 → P k)
  tells_more i r t before here = (
    λ e. let both = and_parts r t e in below_more P i (before.0 both.0) (here.0 both.1),
    λ e f. ⊎_elim (λ n. before.1 n (λ k l. f k (omega arith))) (λ n. here.1 n (f i (omega arith))) (and_cases r t e),
  )

-- ---- block by block

get_or-stretch : (s : List ℕ) (from to i : ℕ) → i < to - from → get_or (stretch s from to) i 0 ≡ get_or s (from + i) 0
get_or-stretch s from to i l = get_or-take (to - from) (drop from s) i 0 l ∙ get_or-drop from s i 0

-- the entries before a block, and those in it
pub block_more : (P : ℕ → Type 0) (s : List ℕ) (from to : ℕ) → to ≤ length s → ((k : ℕ) → k < from → P (get_or s k 0))
    → ((i : ℕ) → i < length (stretch s from to) → P (get_or (stretch s from to) i 0)) → (k : ℕ) → k < to → P (get_or s k 0)
block_more P s from to within before here k l = dite (dec_lt k from) (before k) inside
  where
    inside : ¬ (k < from) → P (get_or s k 0)
    inside n =
        let at : from + (k - from) ≡ k = omega arith in
        let m : k - from < to - from = omega arith in
        subst (λ j. P (get_or s j 0)) at
        (subst P (get_or-stretch s from to (k - from) m) (here (k - from) (omega (arith, length-stretch s from to within))))
