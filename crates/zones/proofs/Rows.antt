-- Laws of tables of rows: an entry that is written.
-- Assumes nothing.
use mathlib.Core.Path.{◌≡◌, refl, ap, ◌∙◌}
use mathlib.Core.Logic.{dite}
use mathlib.Core.List.{List, []}
use Prim.Native.Nat.{ℕ, zero, suc, ◌<◌}
use native.Mathlib.Decide.{ℕ_discrete}
use lib.ListN.{length, get_or, set, replicate}
use lib.Seq.{get_or-set_same, get_or-set_other}
use Rattle.zones.specs.Rows.{row_in, cell}

abbrev pub put_cell : List (List ℕ) → (a q x : ℕ) → List (List ℕ)
put_cell t a q x = set t a (set (row_in t a) q x)

module _ (t : List (List ℕ)) (a q x : ℕ) (in_t : a < length t) where
  row-put : row_in (put_cell t a q x) a ≡ set (row_in t a) q x
  row-put = get_or-set_same t a (set (row_in t a) q x) [] in_t

  pub cell-put_same : q < length (row_in t a) → cell (put_cell t a q x) a q ≡ x
  cell-put_same h = ap (λ (v : List ℕ). get_or v q 0) row-put ∙ get_or-set_same (row_in t a) q x 0 h

  pub cell-put_other : (e p : ℕ) → ¬ ((e ≡ a) × (p ≡ q)) → cell (put_cell t a q x) e p ≡ cell t e p
  cell-put_other e p n =
      dite (ℕ_discrete e a)
      (λ same. rw same (ap (λ (v : List ℕ). get_or v p 0) row-put ∙ get_or-set_other (row_in t a) q p x 0 (λ i. n (same, i))))
      (λ other. ap (λ (v : List ℕ). get_or v p 0) (get_or-set_other t a e (set (row_in t a) q x) [] other))

-- a table of rows of zeros, as a fresh one is
pub zero_rows-at : (row : List ℕ) → ((q : ℕ) → get_or row q 0 ≡ 0) → (n a q : ℕ) → cell (replicate n row) a q ≡ 0
zero_rows-at row zero-row zero a q = refl
zero_rows-at row zero-row (suc n) zero q = zero-row q
zero_rows-at row zero-row (suc n) (suc a) q = zero_rows-at row zero-row n a q
