-- Lists of numbers in dictionary order, and the first one that passes a test.
-- Assumes nothing.
use Rattle.std.specs.Prelude.{◌≡◌, ◌⊎◌, List, [], ◌∷◌, ℕ, zero, suc, ◌<◌, length}
use Rattle.std.proofs.Math.Option.{Option, none, some}
use Rattle.chain.specs.Lists.{Mem, Each}

-- p is q, or comes before it in dictionary order: a beginning comes before its continuations
abbrev pub NotAfter : List ℕ → List ℕ → Type 0
NotAfter [] q = Unit {0}
NotAfter (x ∷ p) [] = ⊥
NotAfter (x ∷ p) (y ∷ q) = (x < y) ⊎ ((x ≡ y) × NotAfter p q)

-- p has k entries, each a member of xs
abbrev pub Drawn : List ℕ → ℕ → List ℕ → Type 0
Drawn xs k p = (length p ≡ k) × Each (λ x. Mem x xs) p

-- p is the first such list that passes: every other comes later
pub record Foremost (xs : List ℕ) (k : ℕ) (P : List ℕ → Type 0) (p : List ℕ) : Type 0 where
  pub drawn : Drawn xs k p
  pub passes : P p
  pub foremost : (q : List ℕ) → Drawn xs k q → P q → NotAfter p q

-- no such list passes
abbrev pub Nowhere : List ℕ → ℕ → (List ℕ → Type 0) → Type 0
Nowhere xs k P = (p : List ℕ) → Drawn xs k p → ¬ P p

-- what a search finds is the first, and where it finds none there is none
abbrev pub Finds : List ℕ → ℕ → (List ℕ → Type 0) → Option (List ℕ) → Type 0
Finds xs k P none = Nowhere xs k P
Finds xs k P (some p) = Foremost xs k P p

-- ---- a search in dictionary order

-- the first of ys with which the rest is found, and that rest
unfoldable pub try_each : (ℕ → Option (List ℕ)) → List ℕ → Option (List ℕ)
try_each rest [] = none
try_each rest (y ∷ ys) = elim (rest y) [ none ↦ try_each rest ys | some p ↦ some (y ∷ p) ]

-- among the lists of k members of xs, ascending, the first that passes (`seek_finds` of proofs/Dictionary)
unfoldable pub seek : {P : List ℕ → Type 0} → ((p : List ℕ) → Dec (P p)) → List ℕ → ℕ → Option (List ℕ)
seek test xs zero = elim (test []) [ yes _ ↦ some [] | no _ ↦ none ]
seek test xs (suc k) = try_each (λ y. seek (λ p. test (y ∷ p)) xs k) xs
