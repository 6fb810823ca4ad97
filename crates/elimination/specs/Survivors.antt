-- Sound sets of candidates and the largest of them, the survivors. Document 01, "Types and links". A set of candidates is any predicate, so
-- that code may hold one as marks.
-- Assumes nothing.
use Rattle.std.specs.Prelude.{◌≡◌, List, ℕ, zero, suc, ◌≤◌, ◌<◌}
use Rattle.std.proofs.Math.Decide.{ℕ_discrete, dec_le}
use Rattle.chain.specs.Decisions.{dec_and}
use Rattle.chain.specs.Lists.{Mem, Each, each?, any?, keep, from}
use Rattle.chain.specs.Connectives.{Quantifier, through}
use Rattle.semantics.specs.Quantified.{EachQuantified, each_quantified?}
use Rattle.semantics.specs.Interpretations.{Grading}
use Rattle.semantics.specs.Books.{Rule, Book}
use Rattle.types.specs.Candidates.{grade_in, candidates}
use Rattle.types.specs.Links.{link}

-- candidate d is a witness of c's term i, which has quantifier q, role r and child x: through the link of the two it takes exactly its grade
abbrev pub Witnesses : Grading → (c i : ℕ) → Quantifier → (r x d : ℕ) → Type 0
Witnesses G c i q r x d = grade_in G c i ≡ through G.connectives q (link G r c d) (grade_in G d x)

module _ (G : Grading) (rs : List Rule) where
  -- candidate c meets every rule
  abbrev pub Obeys : ℕ → Type 0
  Obeys c = Each (λ q. grade_in G c q.left ≤ grade_in G c q.right) rs

  -- c fits in the set S: it meets every rule, and each of its quantified terms has a witness in S
  abbrev pub Fits : (ℕ → Type 0) → ℕ → Type 0
  Fits S c = Obeys c × EachQuantified G.terms (λ i q r x. (d : ℕ) × S d × Witnesses G c i q r x d)

  -- "A set is sound when each member meets every rule and each of its quantified terms takes exactly its grade from some member through that
  -- link."
  pub record Sound (S : ℕ → Type 0) : Type 0 where
    pub candidate : (c : ℕ) → S c → c < candidates G
    pub fits : (c : ℕ) → S c → Fits S c

  -- ---- the survivors, computed

  unfoldable pub fits? : (xs : List ℕ) (c : ℕ) → Dec (Fits (λ d. Mem d xs) c)
  unfolding dec_and each? any? dec_le ℕ_discrete each_quantified?
  fits? xs c =
      dec_and (each? (λ q. dec_le (grade_in G c q.left) (grade_in G c q.right)) rs)
      (each_quantified? G.terms _ (λ i q r x. any? (λ d. ℕ_discrete (grade_in G c i) (through G.connectives q (link G r c d) (grade_in G d x))) xs))

  -- sweep until a sweep takes nothing away; n bounds the sweeps
  unfoldable pub settle : ℕ → List ℕ → List ℕ
  settle zero xs = xs
  settle (suc n) xs = elim (each? (fits? xs) xs) [ yes _ ↦ xs | no _ ↦ settle n (keep (fits? xs) xs) ]

  -- "The survivors are the largest sound set" (`survivors_sound` and `survivors_largest` of proofs/Survivors), in ascending order
  unfoldable pub survivors : List ℕ
  survivors = settle (candidates G) (from 0 (candidates G))

  abbrev pub Survives : ℕ → Type 0
  Survives c = Mem c survivors

  -- a set that contains the survivors: what code holds, whatever its order of work
  abbrev pub Covers : (ℕ → Type 0) → Type 0
  Covers S = (c : ℕ) → Survives c → S c

-- the candidates that survive a book's rules
abbrev pub survivors_of : Book → List ℕ
survivors_of B = survivors B.grading B.rules
