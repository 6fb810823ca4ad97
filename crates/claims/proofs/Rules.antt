-- Laws of the rules' section.
-- Assumes nothing.
use mathlib.Core.Path.{◌≡◌}
use mathlib.Core.List.{List, [], ◌∷◌, flat_map}
use Prim.Native.Nat.{ℕ, ◌*◌, ◌<◌}
use native.Mathlib.Nat.{add-zero}
use native.Mathlib.Omega.{arith}
use lib.ListN.{length}
use Rattle.chain.specs.Lists.{Each, table}
use Rattle.chain.proofs.Lists.{each-table}
use Rattle.chain.proofs.Blocks.{blocks_whole}
use Rattle.semantics.specs.Books.{Rule}
use Rattle.claims.specs.Rules.{rule_count, rule_at, rules_of}

module _ (s : List ℕ) where
  pub rules-each : (P : Rule → Type 0) → ((i : ℕ) → i < rule_count s → P (rule_at s i)) → Each P (rules_of s)
  unfolding rules_of
  rules-each P = each-table P (rule_at s) (rule_count s)

  -- n rules, each written as its two bytes, are the section
  pub rules-bytes : (f : Rule → List ℕ) (n : ℕ) → length s ≡ 2 * n
      → ((i : ℕ) → i < rule_count s → f (rule_at s i) ≡ (rule_at s i).left ∷ (rule_at s i).right ∷ [])
      → (flat_map f (rules_of s) ≡ s) × (length (rules_of s) ≡ n)
  unfolding rules_of table
  rules-bytes f n e h = blocks_whole f 2 n 0 (rule_at s) s (omega arith) e (λ i l. let w = h i l in cc (add-zero (2 * i)))
