-- Laws of the columns' cells, row by row: that they are the grid, and one row more.
-- Assumes nothing.
use mathlib.Core.Path.{◌≡◌, ◌∙◌}
use mathlib.Core.List.{List, ◌++◌}
use Prim.Native.Nat.{ℕ, ◌+◌, ◌*◌, ◌-◌, ◌≤◌}
use native.Mathlib.Omega.{arith}
use lib.ListN.{length, take, drop, length-drop}
use lib.Seq.{length-take-le}
use Rattle.chain.specs.Lists.{table}
use Rattle.chain.proofs.Blocks.{fill_none, fill_more}
use Rattle.chain.proofs.Lists.{length-table, table_same, flat_map-same}
use Rattle.semantics.specs.Interpretations.{Grading, Interpretation}
use Rattle.working.specs.Grids.{grid_of}
use Rattle.columns.specs.Columns.{cell_at, HoldsGrades, rows_of}
use Rattle.columns.specs.declared.Columns.{Columns}

-- the columns' rows are the grid
pub rows_grid : (G : Grading) (I : Interpretation) (v : Columns) → HoldsGrades G I v → rows_of v (length G.terms) I.size ≡ grid_of G I
unfolding rows_of grid_of
rows_grid G I v holds =
    flat_map-same _ _ 0 I.size (λ e l. table_same _ _ (length G.terms) (λ i h. holds i h e (omega arith)))

-- ---- the list that a loop fills with rows, from the front

module _ (v : Columns) (t : ℕ) where
  abbrev row : ℕ → List ℕ
  row e = table (λ i. cell_at v i e) t

  pub rows_none : (d : List ℕ) → d ≡ rows_of v t 0 ++ drop (0 * t) d
  unfolding rows_of
  rows_none = fill_none row t (λ e. length-table _ t)

  pub rows_more : (n : ℕ) (l d block : List ℕ) → l ≡ rows_of v t n ++ drop (n * t) d → n * t + t ≤ length l
      → block ≡ table (λ i. cell_at v i n) (length (take (n * t + t - n * t) (drop (n * t) l)))
      → take (n * t) l ++ (block ++ drop (n * t + t - n * t) (drop (n * t) l)) ≡ rows_of v t (n + 1) ++ drop ((n + 1) * t) d
  unfolding rows_of
  rows_more n l d block e h is =
      let width : n * t + t - n * t ≡ t = omega arith in
      let long : length (take t (drop (n * t) l)) ≡ t = length-take-le t (drop (n * t) l) (rw length-drop (omega arith)) in
      fill_more row t (λ e. length-table _ t) n l d block e h (is ∙ rw (width, long))
