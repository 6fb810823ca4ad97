-- Arc consistency: each candidate that an individual may have is compatible with one that any other may have. What is taken away on the way
-- there belongs to no consistent placement.
-- Assumes nothing.
use Rattle.std.specs.Prelude.{◌≡◌, Bool, true, false, List, Option, MatchOption, ℕ, ◌+◌, ◌*◌, ◌≤◌, ◌<◌, length, get_or}
use Rattle.chain.specs.Search.{rank}
use Rattle.gradings.specs.declared.Logic.{Logic}
use Rattle.levels.specs.Rows.{row_at}
use Rattle.elimination.specs.Marks.{marked?}
use Rattle.network.specs.declared.Constraint.{Constraint}
use Rattle.network.specs.Constraints.{constraint_count, constraint_at, Met}
use Rattle.network.specs.Network.{between}
use Rattle.domains.specs.Tables.{Allowed}
use Rattle.domains.specs.Gaps.{Gaps}
use Rattle.domains.specs.Consistent.{Fits, Consistent, Graded}
use Rattle.domains.specs.declared.Instance.{Instance}
use Rattle.boxes.specs.Boxes.{Inside}
use Rattle.boxes.specs.declared.Bound.{Bound}
use Rattle.network.specs.declared.End.{End}
use Rattle.network.specs.declared.End.TheVariants.{Source, Target}

-- ---- constraints, where the row at one end of the link is known

-- the row v at the other end meets a constraint
abbrev pub MetAcross : Logic → End → Constraint → (known v : List ℕ) → Type 0
MetAcross l Source k a v = Met l k a v
MetAcross l Target k b v = Met l k v b

-- and all of a list
abbrev pub AllMetAcross : Logic → End → List Constraint → (known v : List ℕ) → Type 0
AllMetAcross l end s known v = (y : ℕ) → y < constraint_count s → MetAcross l end (constraint_at s y) known v

-- ---- support

module _ (p : Instance) where
  -- the row a for individual j and the row b for individual i are compatible
  abbrev pub FitsIn : (j i : ℕ) (a b : List ℕ) → Type 0
  FitsIn = Fits p.network.logic p.network.constraints.now p.network.ends.now

  -- s places the individuals where the table allows them, and any two are compatible
  abbrev pub ConsistentIn : (table : List ℕ) (s : ℕ → ℕ) → Type 0
  ConsistentIn = Consistent p.network.logic p.network.constraints.now p.network.ends.now p.count p.rows.now p.individuals

  -- a table of the domains: its gaps are noted, and the rows of its candidates are on the chain
  pub record Domains (table : List ℕ) : Type 0 where
    pub long : 131072 ≤ length table
    pub gaps : Gaps table p.individuals p.count
    pub graded : Graded p.network.logic p.network.columns p.count p.individuals p.rows.now table

  -- candidate d is allowed to individual i, and its row lies in the box
  abbrev pub Hit : (box : List Bound) (table : List ℕ) (i d : ℕ) → Type 0
  Hit box table i d = Allowed table i d × Inside box (row_at p.rows.now d)

  -- one that is found from `start` on and below `to` is a hit, or there is none
  abbrev pub Sought : (box : List Bound) (table : List ℕ) (i start to : ℕ) → Option ℕ → Type 0
  Sought box table i start to found =
      MatchOption found ((d : ℕ) → start ≤ d → d < to → ¬ Hit box table i d) (λ d. (d < to) × Hit box table i d)

  -- individual i may have a candidate that is compatible with c for j
  abbrev pub Supported : (table : List ℕ) (j i c : ℕ) → Type 0
  Supported table j i c = (d : ℕ) × (d < p.count) × Allowed table i d × FitsIn j i (row_at p.rows.now c) (row_at p.rows.now d)

  -- c has support if one is found, and else none
  abbrev pub Tried : (table : List ℕ) (j i c : ℕ) → Option ℕ → Type 0
  Tried table j i c found = MatchOption found (¬ Supported table j i c) (λ d. (d < p.count) × Supported table j i c)

-- ---- what is left

-- how many candidates all individuals together may have
abbrev pub left : (table : List ℕ) → ℕ
left table = rank (marked? table) 131072

-- candidates went, or the table is as it was
abbrev pub Went : Bool → (old new : List ℕ) → Type 0
Went true old new = left new < left old
Went false old new = new ≡ old

module _ (p : Instance) where
  -- the candidates below k of j that have no support by i went, if any, and nothing else did
  pub record RevisedBy (j i k : ℕ) (changed : Bool) (old new : List ℕ) : Type 0 where
    pub fewer : (x : ℕ) → get_or new x 0 ≡ 1 → get_or old x 0 ≡ 1
    pub others : (x : ℕ) → ((c : ℕ) → c < p.count → ¬ (x ≡ 16384 * j + c)) → get_or new x 0 ≡ get_or old x 0
    pub gone : (c : ℕ) → c < p.count → Allowed old j c → ¬ Allowed new j c → ¬ Supported p old j i c
    pub went : Went changed old new
    pub held : changed ≡ false → (c : ℕ) → c < k → Allowed old j c → Supported p old j i c

  -- each candidate of j has support by individual i, if there are constraints between the two
  abbrev pub SupportedBy : (j i : ℕ) (table : List ℕ) → Type 0
  SupportedBy j i table =
      0 < length (between p.network.constraints.now p.network.ends.now j i) + length (between p.network.constraints.now p.network.ends.now i j)
      → (c : ℕ) → c < p.count → Allowed table j c → Supported p table j i c

  -- by every other individual below k
  abbrev pub SupportedTo : (j k : ℕ) (table : List ℕ) → Type 0
  SupportedTo j k table = (i : ℕ) → i < k → ¬ (i ≡ j) → SupportedBy j i table

  -- so it is for the individuals below k
  abbrev pub ConsistentTo : (k : ℕ) (table : List ℕ) → Type 0
  ConsistentTo k table = (j : ℕ) → j < k → SupportedTo j p.individuals table

  -- the table is arc consistent
  abbrev pub ArcConsistent : (table : List ℕ) → Type 0
  ArcConsistent table = ConsistentTo p.individuals table

  -- candidates were taken away, and none of a placement that is consistent
  pub record Pruned (old new : List ℕ) : Type 0 where
    pub fewer : (x : ℕ) → get_or new x 0 ≡ 1 → get_or old x 0 ≡ 1
    pub keeps : (s : ℕ → ℕ) → ConsistentIn p old s → ConsistentIn p new s

  -- and if none went, Q holds of the table
  pub record Revised (Q : List ℕ → Type 0) (changed : Bool) (old new : List ℕ) : Type 0 where
    pub pruned : Pruned old new
    pub went : Went changed old new
    pub held : changed ≡ false → Q old
