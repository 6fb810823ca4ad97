-- Laws of rows of grades, of tables of rows, and of the link of two rows: it is that of their candidates.
-- Assumes nothing.
use mathlib.Core.Path.{◌≡◌, sym, ap, subst, ◌∙◌}
use mathlib.Core.List.{List, ◌++◌}
use Prim.Native.Nat.{ℕ, ◌+◌, ◌*◌, ◌≤◌}
use native.Mathlib.Omega.{arith}
use lib.ListN.{length, get_or, take, get_or-append}
use lib.Seq.{take_at}
use Rattle.chain.specs.Lists.{table}
use Rattle.chain.proofs.Lists.{length-table, get_or-table, every_table}
use Rattle.chain.proofs.Blocks.{length_block, each_block_more}
use Rattle.semantics.specs.Terms.{Term, Ordered}
use Rattle.semantics.specs.Interpretations.{Grading, WellFormed}
use Rattle.semantics.specs.Links.{link_between}
use Rattle.semantics.proofs.Links.{between_alike}
use Rattle.types.specs.Candidates.{grade_in}
use Rattle.types.specs.Links.{link}
use Rattle.types.proofs.Candidates.{grade_in_le}
use Rattle.gradings.specs.Gradings.{grading}
use Rattle.gradings.specs.declared.Logic.{Logic}
use Rattle.gradings.proofs.Gradings.{grading_well_formed}
use Rattle.sections.specs.Terms.{term_count, terms_of, TermsRight}
use Rattle.sections.proofs.Terms.{length-terms, terms-ordered}
use Rattle.grades.specs.Rows.{row_of, HasGrades, row_at, entry, EachRow}

-- ---- a candidate's row

module _ (G : Grading) (c : ℕ) where
  pub length-row : length (row_of G c) ≡ length G.terms
  unfolding row_of
  length-row = length-table (grade_in G c) (length G.terms)

  pub row-grades : HasGrades G c (row_of G c)
  unfolding row_of
  row-grades i h = get_or-table (grade_in G c) (length G.terms) i 0 h

  -- the row at the front of a longer list
  pub front_grades : (xs : List ℕ) → HasGrades G c (row_of G c ++ xs)
  front_grades xs i h = get_or-append (row_of G c) xs 0 i (rw length-row h) ∙ row-grades i h

  -- as it is left where a row was filled in
  pub filled_grades : (xs ys : List ℕ) → xs ≡ row_of G c ++ ys → HasGrades G c xs
  filled_grades xs ys e = subst (HasGrades G c) (sym e) (front_grades ys)

  -- on the chain, at every index
  pub row_le : WellFormed G → (i : ℕ) → get_or (row_of G c) i 0 ≤ G.steps
  unfolding row_of
  row_le w = every_table (λ x. x ≤ G.steps) (grade_in G c) (length G.terms) 0 (omega arith) (grade_in_le G w c)

-- ---- over a section of terms: a candidate's row, at the front of what code filled

module _ (lg : Logic) (s : List ℕ) (c : ℕ) where
  abbrev row : List ℕ
  row = row_of (grading lg (terms_of s)) c

  pub row-length : length row ≡ term_count s
  row-length = length-row (grading lg (terms_of s)) c ∙ length-terms s

  pub row_front : (xs ys : List ℕ) → xs ≡ row ++ ys → take (term_count s) xs ≡ row
  row_front xs ys e = ap (take (term_count s)) e ∙ take_at row ys (term_count s) row-length

  pub row-at-most : TermsRight s → (i : ℕ) → get_or row i 0 ≤ lg.steps
  row-at-most h = row_le (grading lg (terms_of s)) c (grading_well_formed lg (terms_of s) (terms-ordered s h))

pub row-terms : (l : Logic) (s : List ℕ) (c : ℕ) → row_of (grading l (terms_of s)) c ≡ table (grade_in (grading l (terms_of s)) c) (term_count s)
unfolding row_of
row-terms l s c = ap (table (grade_in (grading l (terms_of s)) c)) (length-terms s)

-- ---- a table of rows

pub length-row_at : (rows : List ℕ) (k : ℕ) → 64 * k + 64 ≤ length rows → length (row_at rows k) ≡ 64
length-row_at rows k = length_block 64 (64 * k) rows

-- one row more, where those before it stay
pub each-row-more : (P : ℕ → List ℕ → Type 0) (k : ℕ) (old new : List ℕ) → take (64 * k) new ≡ take (64 * k) old → EachRow P k old → P k (row_at new k)
    → EachRow P (k + 1) new
each-row-more P k old new same = each_block_more 64 k old new same P

-- ---- the link of two rows

module _ (l : Logic) (ts : List Term) (o : Ordered ts) (r c d : ℕ) (first second : List ℕ) (hf : HasGrades (grading l ts) c first)
    (hs : HasGrades (grading l ts) d second) where
  abbrev G : Grading
  G = grading l ts

  w : WellFormed G
  w = grading_well_formed l ts o

  -- their link is the candidates'
  pub rows-between : link_between G r (entry first) (entry second) ≡ link G r c d
  rows-between =
      sym (between_alike G w r (grade_in G c) (entry first) (grade_in G d) (entry second) (grade_in_le G w c) (grade_in_le G w d) (λ i m. sym (hf i m))
      (λ i m. sym (hs i m)))
