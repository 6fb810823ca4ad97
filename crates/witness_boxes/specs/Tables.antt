-- The tables by which witnesses are sought: sources, rows of the slots' own grades, and targets, rows of their children's. Candidates with equal
-- rows share one.
-- Assumes nothing.
use Rattle.std.specs.Prelude.{◌≡◌, List, ℕ, ◌*◌, ◌≤◌, ◌<◌, length}
use Rattle.semantics.specs.Terms.{Term}
use Rattle.types.specs.Candidates.{grade_in}
use Rattle.gradings.specs.Gradings.{grading}
use Rattle.gradings.specs.declared.Logic.{Logic}
use Rattle.zones.specs.Rows.{cell}
use Rattle.zones.specs.Zones.{Zoned}
use Rattle.zones.specs.declared.Zone.{Zone}
use Rattle.slots.specs.Slots.{slot_count, slot_kind}

pub record Tables : Type 0 where
  -- what grades are worked out by
  pub logic : Logic
  pub slots : List ℕ
  -- for each source and slot the grade of its term, for each target and slot the grade of its term's child
  pub own : List (List ℕ)
  pub child : List (List ℕ)
  -- of the targets
  pub zones : List Zone

abbrev pub tables : Logic → (slots : List ℕ) (own child : List (List ℕ)) (zones : List Zone) → Tables
tables l slots own child zones = record { logic = l; slots = slots; own = own; child = child; zones = zones }

-- what stands in the tables is within its range, and the zones are those of the targets
pub record Ready (T : Tables) : Type 0 where
  pub low_steps : T.logic.steps ≤ 16
  pub few : slot_count T.slots ≤ 16
  pub few_sources : length T.own ≤ 16384
  pub few_targets : length T.child ≤ 16384
  pub kinds : (q : ℕ) → q < slot_count T.slots → (4 ≤ slot_kind T.slots q) × (slot_kind T.slots q ≤ 5)
  pub own_le : (a q : ℕ) → a < length T.own → q < slot_count T.slots → cell T.own a q ≤ T.logic.steps
  pub child_le : (b q : ℕ) → b < length T.child → q < slot_count T.slots → cell T.child b q ≤ T.logic.steps
  pub zone_room : length T.child ≤ 64 * length T.zones
  pub zoned : Zoned T.child T.zones (slot_count T.slots)

-- row a of the table has what candidate c gives the term that each slot has `at`
abbrev pub RowOf : Logic → List Term → (slots : List ℕ) (at : List ℕ → ℕ → ℕ) (table : List (List ℕ)) (a c : ℕ) → Type 0
RowOf l ts slots at table a c = (q : ℕ) → q < slot_count slots → cell table a q ≡ grade_in (grading l ts) c (at slots q)
