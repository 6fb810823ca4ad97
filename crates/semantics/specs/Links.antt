-- The link (role degree) between two types. Document 01, "Types and links".
-- Assumes nothing.
use Rattle.std.specs.Prelude.{◌≡◌, ◌⊎◌, [], ℕ, ◌<◌, length}
use Rattle.std.proofs.Math.Decide.{ℕ_discrete}
use Rattle.chain.specs.Decisions.{dec_and, dec_or, dec_imp}
use Rattle.chain.specs.Lists.{any?}
use Rattle.chain.specs.Search.{greatest}
use Rattle.chain.specs.Connectives.{Quantifier, through, Permits, within?}
use Rattle.semantics.specs.Terms.{term}
use Rattle.semantics.specs.Roles.{Above}
use Rattle.semantics.specs.Quantified.{quantified, each_quantified?}
use Rattle.semantics.specs.Interpretations.{Grading}

-- The terms of the role t bound the links of the role r: t is r, or above it. "A link of two candidates is now the least of its own bound and those
-- of all roles reachable upward" (`link-is_least` of types/proofs/Links).
abbrev pub Governs : Grading → (t r : ℕ) → Type 0
Governs G t r = (t ≡ r) ⊎ Above G.above r t

unfoldable pub governs? : (G : Grading) (t r : ℕ) → Dec (Governs G t r)
unfolding ℕ_discrete dec_or dec_and any?
governs? G t r = dec_or (ℕ_discrete t r) (any? (λ q. dec_and (ℕ_discrete q.lower r) (ℕ_discrete q.upper t)) G.above)

-- A link of the role r from one type to another, where `own` has the grades of the terms in the first and `child` those in the second: of
-- candidates, of rows, of elements.
module _ (G : Grading) (r : ℕ) (own child : ℕ → ℕ) where
  -- term i allows a link of grade s: what it takes through the link from its child in the second does not pass its grade in the first
  abbrev pub TermAllows : (s i : ℕ) → Type 0
  TermAllows s i =
      (q : Quantifier) (t x : ℕ) → term G.terms i ≡ quantified q t x → Governs G t r → Permits G.connectives q s (child x) (own i)

  -- "for each "all" term of that role, max(N − s, child in the second) is at least its grade in the first, and for each "some" term
  -- min(s, child in the second) is at most its grade in the first" (`allows-each` of proofs/Links), and of the roles above it
  abbrev pub Allows : ℕ → Type 0
  Allows s = (i : ℕ) → i < length G.terms → TermAllows s i

  unfoldable pub allows? : (s : ℕ) → Dec (Allows s)
  unfolding dec_imp within? governs? each_quantified?
  allows? s = each_quantified? G.terms _ (λ i q t x. dec_imp (governs? G t r) (within? q (through G.connectives q s (child x)) (own i)))

  -- "the greatest r at which" it is allowed
  unfoldable pub link_between : ℕ
  unfolding allows? greatest
  link_between = greatest allows? G.steps

-- by the terms of each role alone, whatever is above it
abbrev pub alone : Grading → Grading
alone G = record { steps = G.steps; connectives = G.connectives; terms = G.terms; above = [] }
