-- The quantified terms of a list as slots, four bytes each: kind, role and child, and the term's number.
-- Assumes nothing.
use Rattle.std.specs.Prelude.{◌≡◌, List, ℕ, ◌+◌, ◌*◌, ◌/◌, ◌≤◌, ◌<◌, length, get_or}
use Rattle.chain.specs.Connectives.{Quantifier, Permits}
use Rattle.semantics.specs.Terms.{Term, term}
use Rattle.semantics.specs.Quantified.{quantified, EachQuantified}
use Rattle.semantics.specs.Interpretations.{Grading}
use Rattle.semantics.specs.Links.{Governs}
use Rattle.sections.specs.Terms.{quantifier_of}

module _ (s : List ℕ) where
  abbrev pub slot_count : ℕ
  slot_count = length s / 4

  abbrev pub slot_kind : ℕ → ℕ
  slot_kind q = get_or s (4 * q) 0

  abbrev pub slot_role : ℕ → ℕ
  slot_role q = get_or s (4 * q + 1) 0

  abbrev pub slot_child : ℕ → ℕ
  slot_child q = get_or s (4 * q + 2) 0

  abbrev pub slot_term : ℕ → ℕ
  slot_term q = get_or s (4 * q + 3) 0

  abbrev pub slot_quantifier : ℕ → Quantifier
  slot_quantifier q = quantifier_of (slot_kind q)

-- the slots are the quantified terms of the list, each once or more
pub record SlotsOf (ts : List Term) (s : List ℕ) : Type 0 where
  pub kinds : (q : ℕ) → q < slot_count s → (4 ≤ slot_kind s q) × (slot_kind s q ≤ 5)
  pub terms : (q : ℕ) → q < slot_count s → slot_term s q < length ts
  pub are : (q : ℕ) → q < slot_count s → term ts (slot_term s q) ≡ quantified (slot_quantifier s q) (slot_role s q) (slot_child s q)
  pub onto : EachQuantified ts (λ i k r x. (q : ℕ) × (q < slot_count s) × (slot_term s q ≡ i))

-- slot j, graded o and with a child of grade y, allows a link of grade g for the role r (`slots_allow` of proofs/Slots: all of them allow it where
-- the terms do)
abbrev pub SlotAllows : Grading → (s : List ℕ) (r g j y o : ℕ) → Type 0
SlotAllows G s r g j y o = Governs G (slot_role s j) r → Permits G.connectives (slot_quantifier s j) g y o
