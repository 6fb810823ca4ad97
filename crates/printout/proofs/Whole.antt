-- The texts that the program writes one after another are, together, the printout of the definitions.
-- Assumes nothing.
use mathlib.Core.Path.{◌≡◌, sym, ap, ap₂, ◌∙◌}
use mathlib.Core.Logic.{if_pos, if_neg}
use mathlib.Core.Option.{some}
use mathlib.Core.List.{List, [], ◌++◌, flat_map, append_assoc}
use Prim.Native.Nat.{ℕ, zero, suc, ◌+◌, ◌*◌, ◌<◌}
use native.Mathlib.Decide.{ℕ_discrete}
use native.Mathlib.Omega.{arith}
use lib.ListN.{length}
use Rattle.chain.specs.Lists.{keep, from}
use Rattle.chain.proofs.Lists.{flat_map-same}
use Rattle.encoding.specs.Words.{word_at}
use Rattle.semantics.specs.Books.{Book, individuals}
use Rattle.grades.specs.Rows.{row_of}
use Rattle.elimination.specs.Marks.{marked?}
use Rattle.elimination.specs.Survivors.{survivors_of}
use Rattle.placement.specs.Outcome.{seat, placement, outcome}
use Rattle.printout.specs.Lines.{outcome_line, type_lines, individual_line, individual_lines}
use Rattle.printout.specs.Printout.{placed_at, decided_lines}
use Rattle.printout.proofs.Lines.{line_if, types-all}

-- ---- the types' lines, block by block

flat_map_blocks : (f : ℕ → List ℕ) (a m n : ℕ) → flat_map f (from a (m + n)) ≡ flat_map f (from a m) ++ flat_map f (from (a + m) n)
unfolding flat_map from
flat_map_blocks f a zero n =
    let e : 0 + n ≡ n = omega arith in
    let d : a + 0 ≡ a = omega arith in
    rw (e, d)
flat_map_blocks f a (suc m) n =
    let e : suc m + n ≡ suc (m + n) = omega arith in
    let d : a + suc m ≡ suc a + m = omega arith in
    rw (e, d, append_assoc) (ap (λ (l : List ℕ). f a ++ l) (flat_map_blocks f (suc a) m n))

pub types_blocks : (row : ℕ → List ℕ) {P : ℕ → Type 0} (p : (c : ℕ) → Dec (P c)) (a m n : ℕ)
    → type_lines row (keep p (from a (m + n))) ≡ type_lines row (keep p (from a m)) ++ type_lines row (keep p (from (a + m) n))
types_blocks row p a m n =
    sym (types-all row p a (m + n)) ∙ flat_map_blocks (line_if row p) a m n ∙ ap₂ {C = List ℕ} ◌++◌ (types-all row p a m) (types-all row p (a + m) n)

-- ---- the whole

individuals_same : (f g : ℕ → ℕ) (n : ℕ) → ((j : ℕ) → j < n → f j ≡ g j) → individual_lines f n ≡ individual_lines g n
unfolding individual_lines
individuals_same f g n h =
    flat_map-same (λ j. individual_line j (f j)) (λ j. individual_line j (g j)) 0 n (λ j l. ap (individual_line j) (h j (omega arith)))

-- n mark bytes that mark the survivors
module _ (B : Book) (marks : List ℕ) (n : ℕ) (e : keep (marked? marks) (from 0 n) ≡ survivors_of B) where
  -- the outcome's line, the survivors' lines by the marks, and what follows
  abbrev pieces : List ℕ → List ℕ
  pieces l = outcome_line (outcome B) (length (survivors_of B)) ++ (type_lines (row_of B.grading) (keep (marked? marks) (from 0 n)) ++ l)

  -- outcome 1, with the placement's bytes
  pub whole-placed : (bytes p : List ℕ) → outcome B ≡ 1 → placement B ≡ some p → ((j : ℕ) → j < individuals B → word_at bytes (2 * j) ≡ seat p j)
      → pieces (individual_lines (λ j. word_at bytes (2 * j)) (individuals B)) ≡ decided_lines B
  unfolding decided_lines
  whole-placed bytes p o h f =
      let placed : individual_lines (λ j. word_at bytes (2 * j)) (individuals B) ≡ individual_lines (placed_at (placement B)) (individuals B)
      = rw h (individuals_same (λ j. word_at bytes (2 * j)) (seat p) (individuals B) f) in
      ap pieces (placed ∙ sym (if_pos (ℕ_discrete (outcome B) 1) o _ [])) ∙ rw e

  -- the outcomes 2 and 3
  pub whole_other : ¬ (outcome B ≡ 1) → pieces [] ≡ decided_lines B
  unfolding decided_lines
  whole_other o = ap pieces (sym (if_neg (ℕ_discrete (outcome B) 1) o (individual_lines (placed_at (placement B)) (individuals B)) [])) ∙ rw e
