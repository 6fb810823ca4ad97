-- Collecting the slots, term by term.
-- Assumes nothing.
use Rattle.std.specs.Prelude.{◌≡◌, List, ℕ, ◌+◌, ◌*◌, ◌≤◌, ◌<◌, length, set}
use Rattle.chain.specs.Search.{rank}
use Rattle.chain.specs.Connectives.{Quantifier}
use Rattle.semantics.specs.Terms.{Term, term}
use Rattle.semantics.specs.Quantified.{quantified}
use Rattle.types.specs.Candidates.{opens?}
use Rattle.sections.specs.Terms.{quantifier_of}
use Rattle.slots.specs.Slots.{slot_kind, slot_role, slot_child, slot_term}

-- term i is quantified, of the kind k, with role r and child x
abbrev pub IsSlot : List Term → (k r x i : ℕ) → Type 0
IsSlot ts k r x i = (4 ≤ k) × (k ≤ 5) × (i < length ts) × (term ts i ≡ quantified (quantifier_of k) r x)

-- the first m slots are the quantified terms before term b, and no more than the places there
pub record SlotsCollected (ts : List Term) (slots : List ℕ) (b m : ℕ) : Type 0 where
  pub few : m ≤ rank (opens? ts) b
  pub are : (q : ℕ) → q < m → IsSlot ts (slot_kind slots q) (slot_role slots q) (slot_child slots q) (slot_term slots q)
  pub onto : (i : ℕ) → i < b → (k : Quantifier) (r x : ℕ) → term ts i ≡ quantified k r x → (q : ℕ) × (q < m) × (slot_term slots q ≡ i)

-- the slots with slot m written
abbrev pub with_slot : (slots : List ℕ) (m kind role child term : ℕ) → List ℕ
with_slot s m k r x i = set (set (set (set s (4 * m) k) (4 * m + 1) r) (4 * m + 2) x) (4 * m + 3) i
