-- Laws of rows of slots: how one is written, slot by slot, and that it depends on the grades of the slots' terms and children alone.
-- Assumes nothing.
use mathlib.Core.Path.{◌≡◌, ◌∙◌}
use mathlib.Core.List.{List}
use Prim.Native.Nat.{ℕ, ◌+◌, ◌*◌, ◌≤◌, ◌<◌}
use native.Mathlib.Omega.{arith}
use lib.ListN.{length, get_or, set, length-set}
use lib.Seq.{get_or-set_same, get_or-set_other}
use borrow.Author.Count.{below_more}
use Rattle.semantics.specs.Terms.{Term, Ordered}
use Rattle.slots.specs.Slots.{slot_count, slot_child, slot_term, SlotsOf}
use Rattle.slots.specs.Rows.{TermsBelow, SlotRowTo, SlotRow}
use Rattle.slots.proofs.Slots.{slot_child_lem}

-- the slots of a list of terms
pub slots-below : (ts : List Term) → Ordered ts → (slots : List ℕ) → SlotsOf ts slots → TermsBelow slots (length ts)
slots-below ts o slots S q h = (S.terms q h, slot_child_lem ts o slots S q h)

module _ (slots : List ℕ) (f : ℕ → ℕ) where
  pub slot_row-none : (row : List ℕ) → SlotRowTo slots f 0 row
  slot_row-none row = record { own_is = λ q h. absurd (omega arith); child_is = λ q h. absurd (omega arith) }

  pub slot_row-more : (b : ℕ) (row : List ℕ) → b < slot_count slots → 2 * slot_count slots ≤ length row → SlotRowTo slots f b row
      → SlotRowTo slots f (b + 1) (set (set row b (f (slot_term slots b))) (slot_count slots + b) (f (slot_child slots b)))
  slot_row-more b row l room w = record {
    own_is = below_more (λ q. get_or new q 0 ≡ f (slot_term slots q)) b
        (λ q h. get_or-set_other mid (m + b) q y 0 (omega arith) ∙ get_or-set_other row b q x 0 (omega arith) ∙ w.own_is q h)
        (get_or-set_other mid (m + b) b y 0 (omega arith) ∙ get_or-set_same row b x 0 (omega arith));
    child_is = below_more (λ q. get_or new (m + q) 0 ≡ f (slot_child slots q)) b
        (λ q h. get_or-set_other mid (m + b) (m + q) y 0 (omega arith) ∙ get_or-set_other row b (m + q) x 0 (omega arith) ∙ w.child_is q h)
        (get_or-set_same mid (m + b) y 0 (simp length-set (omega arith)));
  }
    where
      m : ℕ
      m = slot_count slots

      x : ℕ
      x = f (slot_term slots b)

      y : ℕ
      y = f (slot_child slots b)

      mid : List ℕ
      mid = set row b x

      new : List ℕ
      new = set mid (m + b) y

  -- grades that are the same for all terms below n, the slots' and their children among them, give the same row
  pub slot_row-same : (n : ℕ) (g : ℕ → ℕ) (row : List ℕ) → TermsBelow slots n → ((i : ℕ) → i < n → f i ≡ g i) → SlotRow slots f row → SlotRow slots g row
  slot_row-same n g row below same w = record {
    own_is = λ q h. w.own_is q h ∙ same (slot_term slots q) (below q h).0;
    child_is = λ q h. w.child_is q h ∙ same (slot_child slots q) (below q h).1;
  }
