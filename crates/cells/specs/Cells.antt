-- What stands on a sheet, by the bytes that code has: its links and its individuals.
-- Assumes nothing.
use Rattle.std.specs.Prelude.{List, [], ℕ, ◌<◌, length}
use Rattle.semantics.specs.Interpretations.{Interpretation}
use Rattle.sheets.specs.Reading.{interpretation}

-- the sheet without its names, whose grades stand in the columns already
abbrev pub sheet : (n : ℕ) (links individuals : List ℕ) → Interpretation
sheet n ls js = interpretation n 0 [] ls js

abbrev pub element_in : List ℕ → (individual : ℕ) → ℕ
element_in js = (sheet 0 [] js).element

abbrev pub link_in : (n : ℕ) → List ℕ → (role source target : ℕ) → ℕ
link_in n ls = (sheet n ls []).links

-- every individual sits at one of n elements
abbrev pub Seated : (n : ℕ) → List ℕ → Type 0
Seated n js = (j : ℕ) → j < length js → element_in js j < n
