-- Lists as finite sets: membership, what holds of each member, the members that pass a test, ascending lists, where a number stands.
-- Assumes nothing.
use Rattle.std.specs.Prelude.{◌≡◌, refl, ◌⊎◌, ℕ, zero, suc, ◌≤◌, max, length, get_or}
use Rattle.std.proofs.Common.{subst, inl, inr, ⊎_elim}
use Rattle.std.proofs.Math.Logic.{ite}
use mathlib.Core.List.{List, [], ◌∷◌}
use Rattle.std.proofs.Math.Decide.{ℕ_discrete}
use Rattle.chain.specs.Decisions.{dec_and}
use Rattle.chain.specs.Search.{first}

module _ {A : Type 0} where
  abbrev pub Mem : A → List A → Type 0
  Mem x [] = ⊥
  Mem x (y ∷ ys) = (x ≡ y) ⊎ Mem x ys

  abbrev pub Each : (A → Type 0) → List A → Type 0
  Each P [] = Unit {0}
  Each P (x ∷ xs) = P x × Each P xs

  -- the greatest of f over the members; 0 for none
  unfoldable pub highest : (A → ℕ) → List A → ℕ
  highest f [] = 0
  highest f (x ∷ xs) = max (f x) (highest f xs)

  -- f 0, f 1, .., n of them
  unfoldable pub table : (ℕ → A) → ℕ → List A
  table f zero = []
  table f (suc n) = f zero ∷ table (λ i. f (suc i)) n

  module _ {P : A → Type 0} (p : (x : A) → Dec (P x)) where
    -- whether each member passes
    unfoldable pub each? : (xs : List A) → Dec (Each P xs)
    unfolding dec_and
    each? [] = yes tt
    each? (x ∷ xs) = dec_and (p x) (each? xs)

    -- whether some member passes
    unfoldable pub any? : (xs : List A) → Dec ((x : A) × Mem x xs × P x)
    any? [] = no (λ w. w.1)
    any? (x ∷ xs) = elim (p x) [ yes q ↦ yes (x, inl refl, q) | no n ↦ go n (any? xs) ]
      where
        go : ¬ P x → Dec ((y : A) × Mem y xs × P y) → Dec ((y : A) × Mem y (x ∷ xs) × P y)
        go n (yes w) = yes (w.0, inr w.1, w.2)
        go n (no f) = no (λ w. ⊎_elim (λ e. n (subst P e w.2)) (λ m. f (w.0, m, w.2)) w.1)

    -- the members that pass, in order
    unfoldable pub keep : List A → List A
    keep [] = []
    keep (x ∷ xs) = ite {C = List A} (p x) (x ∷ keep xs) (keep xs)

-- the n numbers from a on
unfoldable pub from : ℕ → ℕ → List ℕ
from a zero = []
from a (suc n) = a ∷ from (suc a) n

-- each member is above the one before it, the first at least b: so none stands twice
abbrev pub Ascending : ℕ → List ℕ → Type 0
Ascending b [] = Unit {0}
Ascending b (x ∷ xs) = (b ≤ x) × Ascending (suc x) xs

-- where x first stands in the list; 0 if nowhere
unfoldable pub index : List ℕ → ℕ → ℕ
index xs x = ⊎_elim (λ w. w.0) (λ _. 0) (first (λ k. ℕ_discrete (get_or xs k 0) x) (length xs))
