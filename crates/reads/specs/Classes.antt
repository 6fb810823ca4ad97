-- Classes of candidates that look alike to the constraints between an individual and the others: the first of each is enough.
-- Assumes nothing.
use Rattle.network.specs.declared.Constraint.{Constraint}
use Rattle.std.specs.Prelude.{◌≡◌, Bool, true, false, List, ℕ, ◌+◌, ◌-◌, ◌≤◌, ◌<◌, length, get_or, set}
use Rattle.gradings.specs.declared.Logic.{Logic}
use Rattle.levels.specs.Rows.{row_at}
use Rattle.domains.specs.Tables.{Allowed}
use Rattle.domains.specs.Consistent.{Consistent}

-- two rows have the same grades in the columns of the list
abbrev pub Alike : (list a b : List ℕ) → Type 0
Alike list a b = (x : ℕ) → x < length list → get_or a (get_or list x 0) 0 ≡ get_or b (get_or list x 0) 0

-- What the search for an earlier candidate that looks like c says. An entry of the memory is one more than a candidate, or 0.
abbrev pub Matched : (list rows : List ℕ) (c : ℕ) (old new : List ℕ) → Bool → Type 0
Matched list rows c old new true = (new ≡ old) × ((h : ℕ) × (0 < get_or old h 0) × Alike list (row_at rows (get_or old h 0 - 1)) (row_at rows c))
Matched list rows c old new false = (h : ℕ) × (new ≡ set old h (c + 1))

-- of what j might have, something no later that looks alike is left; the others have what they had
pub record ThinnedAt (list rows : List ℕ) (j count : ℕ) (old new : List ℕ) : Type 0 where
  pub fewer : (x : ℕ) → get_or new x 0 ≡ 1 → get_or old x 0 ≡ 1
  pub elsewhere : (i d : ℕ) → ¬ (i ≡ j) → d < count → Allowed old i d → Allowed new i d
  pub first : (d : ℕ) → d < count → Allowed old j d → (e : ℕ) × (e ≤ d) × Allowed new j e × Alike list (row_at rows e) (row_at rows d)

-- on the way: the candidates below c are done, and the memory has candidates that are kept
pub record Thinning (list rows : List ℕ) (j count c : ℕ) (old new memory : List ℕ) : Type 0 where
  pub fewer : (x : ℕ) → get_or new x 0 ≡ 1 → get_or old x 0 ≡ 1
  pub elsewhere : (i d : ℕ) → ¬ (i ≡ j) → d < count → Allowed old i d → Allowed new i d
  pub later : (d : ℕ) → c ≤ d → d < count → Allowed old j d → Allowed new j d
  pub first : (d : ℕ) → d < c → Allowed old j d → (e : ℕ) × (e ≤ d) × Allowed new j e × Alike list (row_at rows e) (row_at rows d)
  pub kept : (h : ℕ) → 0 < get_or memory h 0 → (get_or memory h 0 ≤ c) × Allowed new j (get_or memory h 0 - 1)

-- candidates were taken away, and whatever placement is consistent, one that is nowhere later still is
pub record Thinned (l : Logic) (net : List Constraint) (ends : List ℕ) (count : ℕ) (rows : List ℕ) (n : ℕ) (old new : List ℕ) : Type 0 where
  pub fewer : (x : ℕ) → get_or new x 0 ≡ 1 → get_or old x 0 ≡ 1
  pub keeps : (s : ℕ → ℕ) → Consistent l net ends count rows n old s
      → (t : ℕ → ℕ) × Consistent l net ends count rows n new t × ((j : ℕ) → j < n → t j ≤ s j)
