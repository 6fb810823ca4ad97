-- Laws for the functions: one rule or pair judged by numbers that are read from the cells; the first that is broken of a section's records.
-- Assumes nothing.
use mathlib.Core.Path.{◌≡◌, sym}
use mathlib.Core.List.{List}
use Prim.Native.Nat.{ℕ, ◌≤◌, ◌<◌}
use native.Mathlib.Omega.{arith}
use Rattle.semantics.specs.Roles.{RolePair}
use Rattle.semantics.specs.Books.{Rule}
use Rattle.claims.specs.Rules.{rule_count, rule_at, rules_of}
use Rattle.claims.specs.Pairs.{pair_count, pair_at, pairs_of}
use Rattle.working.specs.Working.{first_broken, rule_verdict_at, rule_verdict, pair_verdict_at, pair_verdict, rules_verdict, pairs_verdict}
use Rattle.working.specs.declared.Verdict.TheVariants.{Meets, BreaksRule, BreaksPair}
use Rattle.working.proofs.Working.{judge_yes, judge_no, first-table}

-- ---- one rule or pair

module _ (grade : (term element : ℕ) → ℕ) (k : ℕ) where
  -- x and y are the grades of the two terms at e
  module _ (q : Rule) (e x y : ℕ) (l : x ≡ grade q.left e) (r : y ≡ grade q.right e) where
    pub rule_met : x ≤ y → Meets ≡ rule_verdict_at grade k q e
    unfolding rule_verdict_at
    rule_met h = sym (judge_yes _ _ (omega arith))

    pub rule_unmet : y < x → BreaksRule k e ≡ rule_verdict_at grade k q e
    unfolding rule_verdict_at
    rule_unmet h = sym (judge_no _ _ (λ m. omega arith))

-- x and y are the links of the two roles from e to f
module _ (link : (role source target : ℕ) → ℕ) (k : ℕ) (q : RolePair) (e f x y : ℕ) (l : x ≡ link q.lower e f) (r : y ≡ link q.upper e f) where
  pub pair_met : x ≤ y → Meets ≡ pair_verdict_at link k q e f
  unfolding pair_verdict_at
  pair_met h = sym (judge_yes _ _ (omega arith))

  pub pair_unmet : y < x → BreaksPair k e f ≡ pair_verdict_at link k q e f
  unfolding pair_verdict_at
  pair_unmet h = sym (judge_no _ _ (λ m. omega arith))

-- ---- a section's records, as a loop goes through them

module _ (grade : (term element : ℕ) → ℕ) (s : List ℕ) where
  pub rules-first : (n : ℕ) → rules_verdict grade n (rules_of s) ≡ first_broken (λ k. rule_verdict grade n k (rule_at s k)) (rule_count s)
  unfolding rules_verdict rules_of
  rules-first n = first-table (rule_verdict grade n) (rule_at s) _ (rule_count s)

pub pairs_first : (link : (role source target : ℕ) → ℕ) (n : ℕ) (s : List ℕ)
    → pairs_verdict link n (pairs_of s) ≡ first_broken (λ k. pair_verdict link n k (pair_at s k)) (pair_count s)
unfolding pairs_verdict pairs_of
pairs_first link n s = first-table (pair_verdict link n) (pair_at s) _ (pair_count s)
