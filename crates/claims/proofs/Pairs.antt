-- Laws of the pairs' section.
-- Assumes nothing.
use mathlib.Core.Path.{◌≡◌}
use mathlib.Core.List.{List, [], ◌∷◌, flat_map}
use Prim.Native.Nat.{ℕ, ◌*◌, ◌≤◌, ◌<◌}
use native.Mathlib.Nat.{add-zero}
use native.Mathlib.Omega.{arith}
use lib.ListN.{length}
use Rattle.chain.specs.Lists.{Each, highest, table}
use Rattle.chain.proofs.Lists.{each-table, highest-most}
use Rattle.chain.proofs.Blocks.{blocks_whole}
use Rattle.semantics.specs.Roles.{RolePair}
use Rattle.semantics.specs.Books.{pair_roles, RolesInRange}
use Rattle.claims.specs.Pairs.{pair_count, pair_at, pairs_of, PairsRight}

module _ (s : List ℕ) where
  pub pairs-each : (P : RolePair → Type 0) → ((i : ℕ) → i < pair_count s → P (pair_at s i)) → Each P (pairs_of s)
  unfolding pairs_of
  pairs-each P = each-table P (pair_at s) (pair_count s)

  -- check 22 is all that the theory asks of them
  pub pairs_range : PairsRight s → Each RolesInRange (pairs_of s)
  pairs_range ok = pairs-each RolesInRange (λ i l. let h = ok i l in omega arith)

  pub pair_roles-few : PairsRight s → highest pair_roles (pairs_of s) ≤ 8
  unfolding pairs_of
  pair_roles-few ok = highest-most pair_roles (pair_at s) (pair_count s) 8 (λ i l. let h = ok i l in omega arith)

  -- n pairs, each written as its two bytes, are the section
  pub pairs-bytes : (f : RolePair → List ℕ) (n : ℕ) → length s ≡ 2 * n
      → ((i : ℕ) → i < pair_count s → f (pair_at s i) ≡ (pair_at s i).lower ∷ (pair_at s i).upper ∷ [])
      → (flat_map f (pairs_of s) ≡ s) × (length (pairs_of s) ≡ n)
  unfolding pairs_of table
  pairs-bytes f n e h = blocks_whole f 2 n 0 (pair_at s) s (omega arith) e (λ i l. let w = h i l in cc (add-zero (2 * i)))
