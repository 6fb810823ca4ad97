-- The search for witnesses by the tables: when a target is a witness of a source, the boxes of grades in which the children of a witness lie, the
-- next marked target in its box, and what is remembered of earlier searches.
-- Assumes nothing.
use Rattle.std.specs.Prelude.{◌≡◌, List, [], ℕ, ◌+◌, ◌-◌, ◌≤◌, ◌<◌, length, get_or, Option, None, Some, MatchOption}
use Rattle.chain.specs.Connectives.{Reaches, Wants}
use Rattle.gradings.specs.Gradings.{connectives_of, grading}
use Rattle.boxes.specs.Boxes.{bound_at, Inside, part, Narrowed}
use Rattle.boxes.specs.declared.Bound.{Bound}
use Rattle.zones.specs.Rows.{row_in, cell}
use Rattle.zones.specs.Zones.{Lies}
use Rattle.zones.specs.declared.Zone.{Zone}
use Rattle.slots.specs.Slots.{slot_count, slot_role, slot_quantifier, SlotAllows}
use Rattle.elimination.specs.Marks.{Marked}
use Rattle.witness_boxes.specs.Tables.{Tables}
use Rattle.witness_boxes.specs.declared.Span.{Span}
use Rattle.witness_boxes.specs.declared.Boxes.{Boxes}

-- ---- a witness

-- for slot q of source c
module _ (T : Tables) (c q : ℕ) where
  -- slot j, with a child of grade y, allows a link of grade s for the role of slot q
  abbrev pub AllowsAt : (s j y : ℕ) → Type 0
  AllowsAt s j y = SlotAllows (grading T.logic []) T.slots (slot_role T.slots q) s j y (cell T.own c j)

  -- v is the link that it wants where its own child has grade x
  abbrev pub WantsAt : (x v : ℕ) → Type 0
  WantsAt x v = Wants T.logic.steps (connectives_of T.logic) (slot_quantifier T.slots q) (cell T.own c q) x v

  -- target d is a witness, by the tables: through some link that every slot allows slot q reaches its grade
  abbrev pub Witness : (d : ℕ) → Type 0
  Witness d =
      (s : ℕ)
      × (s ≤ T.logic.steps)
      × Reaches (connectives_of T.logic) (slot_quantifier T.slots q) s (cell T.child d q) (cell T.own c q)
      × ((j : ℕ) → j < slot_count T.slots → AllowsAt s j (cell T.child d j))

  -- every slot allows a link of level v to a target with this row
  abbrev pub AllowsRow : (v : ℕ) (row : List ℕ) → Type 0
  AllowsRow v row = (j : ℕ) → j < slot_count T.slots → AllowsAt v j (get_or row j 0)

-- ---- the boxes: for each grade of the slot's own child the bounds on the rows of witnesses

module _ (B : Boxes) where
  abbrev pub span_at : (x : ℕ) → Option Span
  span_at x = get_or B.spans x None

  abbrev pub box_of : Span → List Bound
  box_of s = part B.bounds s.begin s.end

  -- the span has the box of level v, for slot q of source c
  pub record BoxAt (T : Tables) (c q v : ℕ) (s : Span) : Type 0 where
    pub level : s.level ≡ v
    pub box : Narrowed T.logic (slot_count T.slots) (AllowsRow T c q v) B.bounds s.begin B.bounds s.end
    pub few : s.end ≤ B.count

  -- the grade x wants a level, and if that is on the chain o has its box
  pub record BoxFor (T : Tables) (c q x : ℕ) (o : Option Span) : Type 0 where
    pub level : ℕ
    pub wants : WantsAt T c q x level
    pub none : T.logic.steps < level → o ≡ None
    pub some : level ≤ T.logic.steps → (s : Span) × (o ≡ Some s) × BoxAt T c q level s

  -- every grade below n has its box
  abbrev pub Boxed : (T : Tables) (c q n : ℕ) → Type 0
  Boxed T c q n = (x : ℕ) → x < n → BoxFor T c q x (span_at x)

  -- ---- the search

  -- the boxes of the grades up to N can be read, and bound columns below m
  abbrev pub Legible : (N m : ℕ) → Type 0
  Legible N m =
      (x : ℕ) (s : Span) → x ≤ N → span_at x ≡ Some s
      → (s.begin ≤ s.end) × (s.end ≤ length B.bounds) × ((i : ℕ) → i < length (box_of s) → (bound_at (box_of s) i).column < m)

  -- a row lies in the box for its grade at slot q
  abbrev pub InBox : (q : ℕ) (row : List ℕ) → Type 0
  InBox q row = (s : Span) × (span_at (get_or row q 0) ≡ Some s) × Inside (box_of s) row

  -- no row of the zone lies in the box for the grade x, if there is one
  abbrev pub MissedAt : (m : ℕ) (zone : Zone) (x : ℕ) → Type 0
  MissedAt m zone x = (s : Span) → span_at x ≡ Some s → (row : List ℕ) → Lies zone m row → ¬ Inside (box_of s) row

  -- no row of the zone that has grade x at slot q lies in its box
  abbrev pub Unreached : (m q : ℕ) (zone : Zone) (x : ℕ) → Type 0
  Unreached m q zone x = (row : List ℕ) → Lies zone m row → get_or row q 0 ≡ x → ¬ InBox q row

  module _ (q : ℕ) (child : List (List ℕ)) where
    -- none of the r rows from d on lies in its box
    abbrev pub Leapt : (d r : ℕ) → Type 0
    Leapt d r = (e : ℕ) → d ≤ e → e < d + r → e < length child → ¬ InBox q (row_in child e)

    -- d is marked, and row d of the children's grades lies in its box
    abbrev pub Hit : (marks : List ℕ) → ℕ → Type 0
    Hit marks d = Marked marks d × InBox q (row_in child d)

    -- r is the first hit from `start` on, or there is none
    abbrev pub NextHit : (marks : List ℕ) (start : ℕ) → Option ℕ → Type 0
    NextHit marks start o =
        MatchOption o ((d : ℕ) → start ≤ d → ¬ Hit marks d) (λ r. Hit marks r × ((d : ℕ) → start ≤ d → d < r → ¬ Hit marks d))

-- r is the first marked witness of slot q of c from `start` on, or there is none
abbrev pub NextWitness : (T : Tables) (marks : List ℕ) (c q start : ℕ) → Option ℕ → Type 0
NextWitness T marks c q start o =
    MatchOption o ((d : ℕ) → start ≤ d → Marked marks d → ¬ Witness T c q d)
    (λ r. Marked marks r × Witness T c q r × ((d : ℕ) → start ≤ d → d < r → Marked marks d → ¬ Witness T c q d))

-- ---- what is remembered of a slot of a source: 0 for nothing, or one more than a witness

pub record Remembered (T : Tables) (marks : List ℕ) (c q w : ℕ) : Type 0 where
  pub within : w ≤ length T.child
  pub known : 0 < w → Witness T c q (w - 1)
  -- no marked target before it is a witness
  pub passed : (d : ℕ) → d + 1 < w → Marked marks d → ¬ Witness T c q d

abbrev pub Remembers : Tables → (marks : List ℕ) (memory : List (List ℕ)) → Type 0
Remembers T marks memory = (c q : ℕ) → c < length T.own → q < slot_count T.slots → Remembered T marks c q (cell memory c q)

-- slot q of c has a marked witness; and each slot has
abbrev pub Backed : Tables → (marks : List ℕ) → (c q : ℕ) → Type 0
Backed T marks c q = (d : ℕ) × Marked marks d × Witness T c q d

abbrev pub Supported : Tables → (marks : List ℕ) → (c : ℕ) → Type 0
Supported T marks c = (q : ℕ) → q < slot_count T.slots → Backed T marks c q
