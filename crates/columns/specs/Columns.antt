-- Where code keeps the grades that it works out: a column for each term, with a cell for each element.
-- Assumes nothing.
use Rattle.std.specs.Prelude.{◌≡◌, ℕ, ◌<◌, length, get_or}
use mathlib.Core.List.{List, [], flat_map}
use Rattle.chain.specs.Lists.{table, from}
use Rattle.semantics.specs.Interpretations.{Grading, Interpretation, grade_at}
use Rattle.columns.specs.declared.Columns.{Columns}

-- the grades of term i, at element 0, 1, ..
abbrev pub column_at : Columns → (i : ℕ) → List ℕ
column_at v i = get_or v.cells i []

-- the grade of term i at element e
abbrev pub cell_at : Columns → (i e : ℕ) → ℕ
cell_at v i e = get_or (column_at v i) e 0

-- w is v with the grade g for term i at element e
pub record Stored (v w : Columns) (i e g : ℕ) : Type 0 where
  pub stored : cell_at w i e ≡ g
  pub others : (j f : ℕ) → ¬ ((j ≡ i) × (f ≡ e)) → cell_at w j f ≡ cell_at v j f

-- the columns hold the grades of the first k terms at every element
abbrev pub HoldsTo : Grading → Interpretation → (k : ℕ) → Columns → Type 0
HoldsTo G I k v = (i : ℕ) → i < k → (e : ℕ) → e < I.size → cell_at v i e ≡ grade_at G I i e

-- .. and of all terms
abbrev pub HoldsGrades : Grading → Interpretation → Columns → Type 0
HoldsGrades G I v = HoldsTo G I (length G.terms) v

-- the columns' cells, row by row: of t terms at n elements
unfoldable pub rows_of : Columns → (t n : ℕ) → List ℕ
rows_of v t n = flat_map (λ e. table (λ i. cell_at v i e) t) (from 0 n)
