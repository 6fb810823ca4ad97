-- From a sheet's bytes to the interpretation that they stand for.
-- Assumes nothing.
use Rattle.std.specs.Prelude.{List, ℕ, ◌+◌, ◌*◌, get_or}
use Rattle.semantics.specs.Interpretations.{Interpretation}
use Rattle.shapes.specs.Layout.{shape_of, name_bytes, link_bytes, individual_bytes}
use Rattle.shapes.specs.declared.Shape.{Shape}

-- n rows of A name grades; for each role, n rows of n links; the individuals' elements
abbrev pub interpretation : (n A : ℕ) (names links individuals : List ℕ) → Interpretation
interpretation n A ns ls js = record {
  size = n;
  names = λ a e. get_or ns (A * e + a) 0;
  links = λ r e f. get_or ls (n * (n * r + e) + f) 0;
  element = λ j. get_or js j 0;
}

-- the sheet whose bodies stand in b by the shape p
abbrev pub sheet_at : List ℕ → Shape → Interpretation
sheet_at b p = interpretation p.elements p.names (name_bytes b p) (link_bytes b p) (individual_bytes b p)

unfoldable pub sheet_of : List ℕ → Interpretation
sheet_of b = sheet_at b (shape_of b)
