-- The table of implied rules, of listed types. Document 02, P4: "one byte per ordered pair of terms, row by row: 1 if left is never greater than right in
-- any finite interpretation that meets the rules, else 0." That the survivors' types decide it is `implied_by_survivors` of proofs/Subsumption.
-- Assumes nothing.
use Rattle.std.proofs.Math.Logic.{ite}
use mathlib.Core.List.{List, flat_map}
use Rattle.std.specs.Prelude.{ℕ, ◌≤◌, length}
use Rattle.std.proofs.Math.Decide.{dec_le}
use Rattle.chain.specs.Lists.{Each, each?, table, from}
use Rattle.semantics.specs.Interpretations.{Grading}
use Rattle.types.specs.Candidates.{grade_in}

module _ (G : Grading) (cs : List ℕ) where
  -- left is not greater than right in the type of any candidate in cs: the right term subsumes the left one
  abbrev pub Subsumed : (left right : ℕ) → Type 0
  Subsumed left right = Each (λ c. grade_in G c left ≤ grade_in G c right) cs

  unfoldable pub subsumed? : (left right : ℕ) → Dec (Subsumed left right)
  unfolding each? dec_le
  subsumed? left right = each? (λ c. dec_le (grade_in G c left) (grade_in G c right)) cs

  -- "1 .., else 0"
  abbrev pub implied_byte : (left right : ℕ) → ℕ
  implied_byte left right = ite (subsumed? left right) 1 0

  -- "row by row": the row of a left term has a byte for each right one
  abbrev pub implied_row : (left : ℕ) → List ℕ
  implied_row left = table (implied_byte left) (length G.terms)

  unfoldable pub implied_table : List ℕ
  implied_table = flat_map implied_row (from 0 (length G.terms))
