-- A book in which no name recurs, made from one in which names do: the terms that repeat a name are left out, and wherever one is meant the first term
-- with the name stands. Document 02, P5: "Books pasted from fragments repeat a name in several terms."
-- Assumes nothing.
use Rattle.std.specs.Prelude.{◌≡◌, List, map, ℕ, length}
use Rattle.std.proofs.Math.Decide.{ℕ_discrete}
use Rattle.chain.specs.Lists.{table}
use Rattle.chain.specs.Search.{rank, select}
use Rattle.semantics.specs.Terms.{Term, name, not, and, or, some, all, top, bottom, term}
use Rattle.semantics.specs.Interpretations.{Grading}
use Rattle.semantics.specs.Books.{Rule, MembershipClaim, Book}
use Rattle.types.specs.Candidates.{home}

-- with term number f i in place of i
module _ (f : ℕ → ℕ) where
  abbrev pub renumber : Term → Term
  renumber (name a) = name a
  renumber (not c) = not (f c)
  renumber (and c d) = and (f c) (f d)
  renumber (or c d) = or (f c) (f d)
  renumber (some r c) = some r (f c)
  renumber (all r c) = all r (f c)
  renumber top = top
  renumber bottom = bottom

  abbrev pub renumber_rule : Rule → Rule
  renumber_rule q = record { left = f q.left; right = f q.right }

  abbrev pub renumber_claim : MembershipClaim → MembershipClaim
  renumber_claim q = record { members = q.members; term = f q.term; sense = q.sense; grade = q.grade }

module _ (ts : List Term) where
  -- term i repeats no name: it is the first with its name, or none
  unfoldable pub kept? : (i : ℕ) → Dec (home ts i ≡ i)
  kept? i = ℕ_discrete (home ts i) i

  -- the number that term i has among those: a term that repeats a name has that of the first with the name
  unfoldable pub shared_number : ℕ → ℕ
  shared_number i = rank kept? (home ts i)

  -- those terms, in order
  unfoldable pub shared_terms : List Term
  shared_terms = table (λ s. renumber shared_number (term ts (select kept? (length ts) s))) (rank kept? (length ts))

-- a grading with other terms
abbrev pub with_terms : Grading → List Term → Grading
with_terms G us = record { steps = G.steps; connectives = G.connectives; terms = us; above = G.above }

-- the book with the terms us, term f i in place of i
abbrev pub renumbered : (ℕ → ℕ) → List Term → Book → Book
renumbered f us B = record {
  grading = with_terms B.grading us;
  rules = map (renumber_rule f) B.rules;
  pairs = B.pairs;
  memberships = map (renumber_claim f) B.memberships;
  links = B.links;
}

-- the book in which no name recurs
abbrev pub shared : Book → Book
shared B = renumbered (shared_number B.grading.terms) (shared_terms B.grading.terms) B
