-- The lines that the program prints. Document 01, "The program's printout".
-- Assumes nothing.
use mathlib.Core.List.{List, ◌++◌, flat_map}
use Prim.Native.String.{String}
use Rattle.std.specs.Prelude.{ℕ}
use Rattle.chain.specs.Lists.{from}
use Rattle.printout.specs.Text.{bytes, decimal}

-- a number with words before it
unfoldable pub labelled : String → ℕ → List ℕ
labelled label n = bytes label ++ decimal n

-- every line ends with it
unfoldable pub newline : List ℕ
newline = bytes "\n"

-- "prints `refused` and the number"
unfoldable pub refused_line : ℕ → List ℕ
refused_line n = labelled "refused " n ++ newline

-- "or the outcome and survivor count"
unfoldable pub outcome_line : (outcome survivors : ℕ) → List ℕ
outcome_line o n = labelled "outcome " o ++ (labelled " survivors " n ++ newline)

-- ---- "then a line per survivor (number, grades of all terms, a space before each grade and none at the line's end)"

unfoldable pub spaced : ℕ → List ℕ
spaced g = labelled " " g

-- the line of candidate c, whose type is the row
unfoldable pub type_line : (c : ℕ) (row : List ℕ) → List ℕ
type_line c row = labelled "type " c ++ (bytes " grades" ++ (flat_map spaced row ++ newline))

-- of the candidates in the list, where candidate c has the type row c
unfoldable pub type_lines : (row : ℕ → List ℕ) → List ℕ → List ℕ
type_lines row cs = flat_map (λ c. type_line c (row c)) cs

-- ---- "then, for outcome 1, a line per individual"

-- individual j at candidate c
unfoldable pub individual_line : (j c : ℕ) → List ℕ
individual_line j c = labelled "individual " j ++ (labelled " type " c ++ newline)

-- of the individuals 0 .. n − 1, where individual j is at candidate at j
unfoldable pub individual_lines : (at : ℕ → ℕ) (n : ℕ) → List ℕ
individual_lines at n = flat_map (λ j. individual_line j (at j)) (from 0 n)
