-- The grid: "each element's row of term grades".
-- Assumes nothing.
use mathlib.Core.List.{List, flat_map}
use Rattle.std.specs.Prelude.{ℕ, length}
use Rattle.chain.specs.Lists.{table, from}
use Rattle.semantics.specs.Interpretations.{Grading, Interpretation, grade_at}

-- element e's row
abbrev pub grades_at : Grading → Interpretation → (e : ℕ) → List ℕ
grades_at G I e = table (λ i. grade_at G I i e) (length G.terms)

unfoldable pub grid_of : Grading → Interpretation → List ℕ
grid_of G I = flat_map (grades_at G I) (from 0 I.size)
