-- From an interpretation to a sheet's bytes: document 01, "The sheet", read the other way.
-- Assumes nothing.
use mathlib.Core.List.{List, [], ◌∷◌, ◌++◌, flat_map}
use Rattle.std.specs.Prelude.{ℕ}
use Rattle.chain.specs.Lists.{table, from}
use Rattle.encoding.specs.Words.{word_bytes}
use Rattle.semantics.specs.Interpretations.{Interpretation}
use Rattle.shapes.specs.Layout.{names_at, links_at, individuals_at}
use Rattle.shapes.specs.declared.Shape.{Shape}

-- the interpretation M, on N steps, with A names, R roles and I individuals
module _ (N A R I : ℕ) (M : Interpretation) where
  abbrev pub shape_for : Shape
  shape_for = record { elements = M.size; names = A; roles = R; individuals = I }

  -- "Byte 0 is 1; byte 1 is N; then the element count n, name count A, role count R, individual count I; then three two-byte offsets."
  abbrev pub head_bytes : List ℕ
  head_bytes =
      1 ∷ N ∷ M.size ∷ A ∷ R ∷ I
      ∷ flat_map word_bytes (names_at ∷ links_at shape_for ∷ individuals_at shape_for ∷ [])

  -- "names (n rows of A grades)"
  abbrev pub name_body : List ℕ
  name_body = flat_map (λ e. table (λ a. M.names a e) A) (from 0 M.size)

  -- "links (for each role, n rows of n)"
  abbrev pub link_body : List ℕ
  link_body = flat_map (λ r. flat_map (λ e. table (λ f. M.links r e f) M.size) (from 0 M.size)) (from 0 R)

  -- "individuals (I element numbers)"
  abbrev pub individual_body : List ℕ
  individual_body = table M.element I

  -- "Bodies from byte 12, without gaps"
  unfoldable pub sheet_bytes : List ℕ
  sheet_bytes = head_bytes ++ name_body ++ link_body ++ individual_body
