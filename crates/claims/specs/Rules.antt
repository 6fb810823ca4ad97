-- The rules' section of a book: two bytes each, left and right. What its bytes stand for, and check 7.
-- Assumes nothing.
use Rattle.std.specs.Prelude.{List, ℕ, ◌+◌, ◌*◌, ◌/◌, ◌<◌, length, get_or}
use Rattle.std.proofs.Math.Decide.{dec_lt}
use Rattle.chain.specs.Decisions.{dec_and}
use Rattle.chain.specs.Search.{all?}
use Rattle.chain.specs.Lists.{table}
use Rattle.semantics.specs.Books.{Rule}

module _ (s : List ℕ) where
  abbrev pub rule_count : ℕ
  rule_count = length s / 2

  abbrev pub rule_at : ℕ → Rule
  rule_at i = record { left = get_or s (2 * i) 0; right = get_or s (2 * i + 1) 0 }

  unfoldable pub rules_of : List Rule
  rules_of = table rule_at rule_count

  -- rule i names two of n terms
  abbrev pub RuleRight : (n i : ℕ) → Type 0
  RuleRight n i = ((rule_at i).left < n) × ((rule_at i).right < n)

  -- "Does every rule name two terms?"
  abbrev pub RulesRight : (n : ℕ) → Type 0
  RulesRight n = (i : ℕ) → i < rule_count → RuleRight n i

  unfoldable pub rules_right? : (n : ℕ) → Dec (RulesRight n)
  unfolding all? dec_and dec_lt
  rules_right? n = all? (λ i. dec_and (dec_lt (rule_at i).left n) (dec_lt (rule_at i).right n)) rule_count
