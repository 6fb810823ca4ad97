-- What sweeps over marked candidates do, by the tables alone: they take marks away, and none of a set that is closed under witnesses. Candidates
-- with equal own grades share a source, candidates with equal children's grades a target.
-- Assumes nothing.
use Rattle.std.specs.Prelude.{◌≡◌, ◌↔◌, List, ℕ, ◌≤◌, ◌<◌, length, get_or}
use Rattle.chain.specs.Search.{rank}
use Rattle.chain.specs.Lists.{Mem}
use Rattle.elimination.specs.Marks.{Marked, marked?}
use Rattle.slots.specs.Slots.{slot_count}
use Rattle.witness_boxes.specs.Tables.{Tables}
use Rattle.witness_boxes.specs.Search.{Witness, Remembers, Supported}

-- ---- classes

pub record Classes : Type 0 where
  pub rows : Tables
  -- for each candidate its source and its target
  pub source : List ℕ
  pub target : List ℕ

abbrev pub classes : Tables → (source target : List ℕ) → Classes
classes T source target = record { rows = T; source = source; target = target }

-- the class of candidate c
abbrev pub class_of : List ℕ → ℕ → ℕ
class_of xs c = get_or xs c 0

-- each candidate has a class below k
abbrev pub Into : (xs : List ℕ) (k : ℕ) → Type 0
Into xs k = (c : ℕ) → c < length xs → class_of xs c < k

-- candidate d is a witness of slot q of candidate c
abbrev pub WitnessIn : Classes → (c q d : ℕ) → Type 0
WitnessIn K c q d = Witness K.rows (class_of K.source c) q (class_of K.target d)

-- each slot of candidate c has a marked witness
abbrev pub SupportedIn : Classes → (marks : List ℕ) (c : ℕ) → Type 0
SupportedIn K marks c = (q : ℕ) → q < slot_count K.rows.slots → (d : ℕ) × Marked marks d × WitnessIn K c q d

-- each slot of each candidate in xs has a witness in xs
abbrev pub Closed : Classes → List ℕ → Type 0
Closed K xs = (c : ℕ) → Mem c xs → (q : ℕ) → q < slot_count K.rows.slots → (d : ℕ) × Mem d xs × WitnessIn K c q d

-- each candidate in xs is marked
abbrev pub AllMarked : (marks xs : List ℕ) → Type 0
AllMarked marks xs = (c : ℕ) → Mem c xs → Marked marks c

-- marks were taken away, and none of a closed set
pub record Reduced (K : Classes) (marks after : List ℕ) : Type 0 where
  pub part : (c : ℕ) → Marked after c → Marked marks c
  pub keeps : (xs : List ℕ) → Closed K xs → AllMarked marks xs → AllMarked after xs

-- ---- the steps of a sweep

-- the classes that `seen` has marked are just those of the marked candidates below b
pub record Noted (xs marks seen : List ℕ) (b : ℕ) : Type 0 where
  pub from : (k : ℕ) → Marked seen k → (c : ℕ) × (c < b) × Marked marks c × (class_of xs c ≡ k)
  pub onto : (c : ℕ) → c < b → Marked marks c → Marked seen (class_of xs c)

-- of the sources from a to b those stay alive that are supported by what is present; the others stay as they are
abbrev pub Judged : Tables → (present : List ℕ) (a b : ℕ) (alive after : List ℕ) → Type 0
Judged T present a b alive after = (k : ℕ) → Marked after k ↔ (Marked alive k × (a ≤ k → k < b → Supported T present k))

-- of the candidates from a to b those stay marked whose source is alive; the others stay as they are. Of `left` marks r stay
pub record Dropped (xs alive : List ℕ) (a b : ℕ) (marks after : List ℕ) (left r : ℕ) : Type 0 where
  pub marked : (c : ℕ) → Marked after c ↔ (Marked marks c × (a ≤ c → c < b → Marked alive (class_of xs c)))
  pub lower : (c : ℕ) → get_or after c 0 ≤ get_or marks c 0
  pub fewer : r ≤ left
  pub same : r ≡ left → after ≡ marks

-- ---- sweeps

-- bytes 0 and 1, `left` of the first n marked
pub record Counted (n : ℕ) (marks : List ℕ) (left : ℕ) : Type 0 where
  pub bits : (c : ℕ) → get_or marks c 0 ≤ 1
  pub number : left ≡ rank (marked? marks) n

-- what holds between sweeps: the marks are counted, the sources of the marked candidates are alive and their targets present, and no others, and
-- the memory speaks of the targets that are present
pub record State (K : Classes) (n : ℕ) (marks : List ℕ) (memory : List (List ℕ)) (alive present : List ℕ) (left : ℕ) : Type 0 where
  pub counted : Counted n marks left
  pub sources : Noted K.source marks alive n
  pub targets : Noted K.target marks present n
  pub remembers : Remembers K.rows present memory

-- a sweep left r marks: where none went, every marked candidate is supported
pub record Swept (K : Classes) (marks after : List ℕ) (left r : ℕ) : Type 0 where
  pub reduced : Reduced K marks after
  pub fewer : r ≤ left
  pub supported : r ≡ left → (c : ℕ) → Marked after c → SupportedIn K after c

-- sweeps until no mark went: all r that are marked are supported
pub record Settled (K : Classes) (n : ℕ) (marks after : List ℕ) (r : ℕ) : Type 0 where
  pub reduced : Reduced K marks after
  pub counted : Counted n after r
  pub supported : (c : ℕ) → Marked after c → SupportedIn K after c
