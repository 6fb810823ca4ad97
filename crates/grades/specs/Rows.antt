-- Candidates' types as rows of grades, and tables of such rows. Document 01, "Types and links".
-- Assumes nothing.
use Rattle.std.specs.Prelude.{◌≡◌, List, ℕ, ◌*◌, ◌<◌, length, get_or, take, drop}
use Rattle.chain.specs.Lists.{table}
use Rattle.semantics.specs.Interpretations.{Grading}
use Rattle.types.specs.Candidates.{grade_in}

-- "A candidate's type is its grades for all terms": the row of them, in term order
unfoldable pub row_of : Grading → ℕ → List ℕ
row_of G c = table (grade_in G c) (length G.terms)

-- the list begins with the grades of candidate c
abbrev pub HasGrades : Grading → (c : ℕ) (row : List ℕ) → Type 0
HasGrades G c row = (i : ℕ) → i < length G.terms → get_or row i 0 ≡ grade_in G c i

-- the grade that a row has for term i: by it two rows have a link as two candidates have (`Allows` and `link_between` of semantics)
abbrev pub entry : List ℕ → ℕ → ℕ
entry row i = get_or row i 0

-- ---- a table of rows, 64 bytes each

-- row k
abbrev pub row_at : (rows : List ℕ) (k : ℕ) → List ℕ
row_at rows k = take 64 (drop (64 * k) rows)

-- each of the first n rows is as P says
abbrev pub EachRow : (P : ℕ → List ℕ → Type 0) (n : ℕ) (rows : List ℕ) → Type 0
EachRow P n rows = (k : ℕ) → k < n → P k (row_at rows k)
