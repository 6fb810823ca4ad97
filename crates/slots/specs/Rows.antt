-- The row of the slots: the grades of the slots' own terms, and behind these, in the same order, the grades of their children. Links are judged
-- by these grades alone.
-- Assumes nothing.
use Rattle.std.specs.Prelude.{◌≡◌, List, ℕ, ◌+◌, ◌<◌, get_or}
use Rattle.slots.specs.Slots.{slot_count, slot_child, slot_term}

module _ (slots : List ℕ) where
  -- the slots' terms and their children are below n
  abbrev pub TermsBelow : (n : ℕ) → Type 0
  TermsBelow n = (q : ℕ) → q < slot_count slots → (slot_term slots q < n) × (slot_child slots q < n)

  module _ (f : ℕ → ℕ) where
    -- the row has the grades of the slots below b, where f gives the grade of each term by its number
    pub record SlotRowTo (b : ℕ) (row : List ℕ) : Type 0 where
      pub own_is : (q : ℕ) → q < b → get_or row q 0 ≡ f (slot_term slots q)
      pub child_is : (q : ℕ) → q < b → get_or row (slot_count slots + q) 0 ≡ f (slot_child slots q)

    -- those of all slots
    abbrev pub SlotRow : (row : List ℕ) → Type 0
    SlotRow = SlotRowTo (slot_count slots)
