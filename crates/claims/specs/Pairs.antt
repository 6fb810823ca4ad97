-- The pairs' section of a book of edition 2: two bytes each, lower and upper role. What its bytes stand for, and check 22.
-- Assumes nothing.
use Rattle.std.specs.Prelude.{List, ℕ, ◌+◌, ◌*◌, ◌/◌, ◌<◌, length, get_or}
use Rattle.std.proofs.Math.Decide.{dec_lt}
use Rattle.chain.specs.Decisions.{dec_and}
use Rattle.chain.specs.Search.{all?}
use Rattle.chain.specs.Lists.{table}
use Rattle.semantics.specs.Roles.{RolePair}

module _ (s : List ℕ) where
  abbrev pub pair_count : ℕ
  pair_count = length s / 2

  -- "pairs of lower and upper role"
  abbrev pub pair_at : ℕ → RolePair
  pair_at i = record { lower = get_or s (2 * i) 0; upper = get_or s (2 * i + 1) 0 }

  unfoldable pub pairs_of : List RolePair
  pairs_of = table pair_at pair_count

  -- pair i names two roles 0–7
  abbrev pub PairRight : (i : ℕ) → Type 0
  PairRight i = ((pair_at i).lower < 8) × ((pair_at i).upper < 8)

  -- "22 when a pair names a role above 7"
  abbrev pub PairsRight : Type 0
  PairsRight = (i : ℕ) → i < pair_count → PairRight i

  unfoldable pub pairs_right? : Dec PairsRight
  unfolding all? dec_and dec_lt
  pairs_right? = all? (λ i. dec_and (dec_lt (pair_at i).lower 8) (dec_lt (pair_at i).upper 8)) pair_count
