-- What the checks establish: a sheet that is right stands for an interpretation on the book's chain.
-- Assumes nothing.
use mathlib.Core.Path.{◌≡◌, ap}
use mathlib.Core.Logic.{dite}
use mathlib.Core.List.{List}
use Prim.Native.Nat.{ℕ, ◌+◌, ◌*◌, ◌≤◌, ◌<◌}
use native.Mathlib.Decide.{dec_lt}
use native.Mathlib.Omega.{arith}
use lib.ListN.{length, get_or, get_or-eq_default}
use Rattle.semantics.specs.Interpretations.{OnChain}
use Rattle.shapes.specs.Layout.{name_bytes, link_bytes, individual_bytes}
use Rattle.sheets.specs.Reading.{sheet_at, sheet_of}
use Rattle.sheets.specs.Opening.{SheetRight}
use Rattle.shapes.specs.declared.Shape.{Shape}

-- what holds at each index of a list, and of 0, holds at every index, since past the end there are zeros
pub everywhere : (P : ℕ → Type 0) (xs : List ℕ) → P 0 → ((i : ℕ) → i < length xs → P (get_or xs i 0)) → (i : ℕ) → P (get_or xs i 0)
everywhere P xs z f i = dite (dec_lt i (length xs)) (f i) (λ l. rw (get_or-eq_default xs 0 {n = i} (omega arith)) z)

module _ (b : List ℕ) (p : Shape) (N A R I : ℕ) (ok : SheetRight b p N A R I) where
  pub sheet_on_chain : OnChain N (sheet_at b p)
  sheet_on_chain = record {
    inhabited = omega arith;
    names_le = λ a e l. everywhere (λ g. g ≤ N) (name_bytes b p) (omega arith) ok.entries_right.0 (p.names * e + a);
    links_le = λ r e f l m. everywhere (λ g. g ≤ N) (link_bytes b p) (omega arith) ok.entries_right.1.0 (p.elements * (p.elements * r + e) + f);
    element_lt = everywhere (λ e. e < p.elements) (individual_bytes b p) (omega arith) ok.entries_right.1.1;
  }

  pub sheet-is : sheet_at b p ≡ sheet_of b
  unfolding sheet_of
  sheet-is = ap (sheet_at b) ok.shape_is
