-- One cell written: it holds the grade, and the others stay.
-- Assumes nothing.
use mathlib.Core.Path.{◌≡◌, ap}
use mathlib.Core.Logic.{dite}
use mathlib.Core.List.{List, []}
use Prim.Native.Nat.{ℕ, ◌<◌}
use native.Mathlib.Decide.{ℕ_discrete}
use lib.ListN.{length, get_or, set}
use lib.Seq.{get_or-set_same, get_or-set_other}
use Rattle.columns.specs.Columns.{Stored}

module _ (cells : List (List ℕ)) (i e g : ℕ) (h : i < length cells) (l : e < length (get_or cells i [])) where
  written : get_or (set cells i (set (get_or cells i []) e g)) i [] ≡ set (get_or cells i []) e g
  written = get_or-set_same cells i (set (get_or cells i []) e g) [] h

  pub cell-stored : Stored (record { cells = cells }) (record { cells = set cells i (set (get_or cells i []) e g) }) i e g
  cell-stored = record {
    stored = rw written (get_or-set_same (get_or cells i []) e g 0 l);
    others = λ j f n. dite (ℕ_discrete j i)
        (λ same. rw (same, written) (get_or-set_other (get_or cells i []) e f g 0 (λ q. n (same, q))))
        (λ other. ap (λ (l : List ℕ). get_or l f 0) (get_or-set_other cells i j (set (get_or cells i []) e g) [] other));
  }
