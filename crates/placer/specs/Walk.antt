-- A search for the first list in dictionary order that goes no through from a beginning whose next entry may not follow. Free of books and bytes.
-- Assumes nothing.
use Rattle.std.specs.Prelude.{Bool, true, false}
use Rattle.std.proofs.Math.Logic.{ite}
use Rattle.std.proofs.Math.Option.{Option, none, some}
use mathlib.Core.List.{List, [], ◌∷◌, ◌++◌}
use Prim.Native.Nat.{ℕ, zero, suc}
use Rattle.placement.specs.Dictionary.{try_each}

-- the next entry may be c after the beginning q
module _ (May : List ℕ → ℕ → Type 0) (may? : (q : List ℕ) (c : ℕ) → Dec (May q c)) where
  -- what the search w finds after the beginning q and c
  abbrev pub further : (List ℕ → Option (List ℕ)) → List ℕ → ℕ → Option (List ℕ)
  further w q c = ite (may? q c) (w (q ++ c ∷ [])) none

  -- after the beginning q, k entries more, each of xs
  unfoldable pub walk : List ℕ → ℕ → List ℕ → Option (List ℕ)
  unfolding try_each
  walk xs zero q = some []
  walk xs (suc k) q = try_each (further (walk xs k) q) xs

-- what a search in code found: whether anything, and what then
unfoldable pub placed : Bool → List ℕ → Option (List ℕ)
placed true p = some p
placed false p = none
