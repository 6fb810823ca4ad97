-- The link claims as a network of constraints: a list of constraints for each ordered pair of individuals.
-- Assumes nothing.
use Rattle.std.specs.Prelude.{◌≡◌, List, ℕ, ◌+◌, ◌-◌, ◌*◌, ◌≤◌, ◌<◌, length, get_or, take, drop}
use Rattle.semantics.specs.Interpretations.{Grading}
use Rattle.semantics.specs.Links.{Allows}
use Rattle.claims.specs.Claims.{claim_count, link_at}
use Rattle.gradings.specs.declared.Logic.{Logic}
use Rattle.sections.specs.Values.{as_quantifier}
use Rattle.slots.specs.Slots.{slot_count, slot_role, slot_quantifier}
use Rattle.levels.specs.Levels.{pair_of, level_at, LevelsOf}
use Rattle.network.specs.Constraints.{constraint_count, constraint_at, AllRight}
use Rattle.network.specs.declared.Constraint.{Constraint}

-- ---- the lists, one behind the other; entry x of the ends is where pair x begins, and entry x + 1 where it ends

module _ (net : List Constraint) (ends : List ℕ) where
  abbrev pub constraints_of : ℕ → List Constraint
  constraints_of x = take (get_or ends (x + 1) 0 - get_or ends x 0) (drop (get_or ends x 0) net)

  -- from p to q
  abbrev pub between : (p q : ℕ) → List Constraint
  between p q = constraints_of (8 * p + q)

  -- the lists of 64 pairs lie within the constraints
  abbrev pub Laid : Type 0
  Laid = (x : ℕ) → x < 64 → (get_or ends x 0 ≤ get_or ends (x + 1) 0) × (get_or ends (x + 1) 0 ≤ length net) × (get_or ends (x + 1) 0 ≤ get_or ends x 0 + 64)

-- a network over m columns
pub record Wired (l : Logic) (m : ℕ) (net : List Constraint) (ends : List ℕ) : Type 0 where
  pub laid : Laid net ends
  pub long : 65 ≤ length ends
  pub right : (x : ℕ) → x < 64 → AllRight l m (constraints_of net ends x)
  pub few : m ≤ 32

-- ---- where the constraints come from

module _ (slots levels : List ℕ) (x : ℕ) where
  -- a constraint is what slot j asks through the strongest link claimed of a role that its own bounds, and of pair x, of its columns in a row of the
  -- slots
  pub record OfSlot (j : ℕ) (k : Constraint) : Type 0 where
    pub quantifier : as_quantifier k.quantifier ≡ slot_quantifier slots j
    pub level : k.level ≡ level_at levels (slot_role slots j) x
    pub own : k.own ≡ j
    pub child : k.child ≡ slot_count slots + j

  -- constraints `from` to `to` of the list are those of the slots below b whose role bounds a link that is claimed
  pub record Lists (b : ℕ) (s : List Constraint) (from to : ℕ) : Type 0 where
    pub are : (y : ℕ) → from ≤ y → y < to → (j : ℕ) × (j < b) × OfSlot j (constraint_at s y)
    pub onto : (j : ℕ) → j < b → 0 < level_at levels (slot_role slots j) x → (y : ℕ) × (from ≤ y) × (y < to) × OfSlot j (constraint_at s y)

-- the network is that of the link claims, by their levels
pub record NetworkOf (l : Logic) (slots ls levels : List ℕ) (net : List Constraint) (ends : List ℕ) : Type 0 where
  pub laid : Laid net ends
  pub levels_of : LevelsOf l ls (claim_count ls) levels
  pub lists : (x : ℕ) → x < 64 → Lists slots levels x (slot_count slots) (constraints_of net ends x) 0 (constraint_count (constraints_of net ends x))

-- what it stands for (`network_met` of proofs/Links): every link claim of pair x is met, where f and g give the grades of the two individuals
abbrev pub ClaimsMet : Grading → (ls : List ℕ) (x : ℕ) (f g : ℕ → ℕ) → Type 0
ClaimsMet G ls x f g = (i : ℕ) → i < claim_count ls → pair_of (link_at ls i) ≡ x → Allows G (link_at ls i).role f g (link_at ls i).grade

-- ---- on the way

-- behind the first m constraints of `old`, `new` has that of slot j, if its role bounds a link that is claimed, up to r
pub record SlotAdded (slots levels : List ℕ) (x j : ℕ) (old : List Constraint) (m : ℕ) (new : List Constraint) (r : ℕ) : Type 0 where
  pub more : m ≤ r
  pub few : r ≤ m + 1
  pub kept : (z : ℕ) → z < m → constraint_at new z ≡ constraint_at old z
  pub is : m < r → OfSlot slots levels x j (constraint_at new m)
  pub put : 0 < level_at levels (slot_role slots j) x → m < r

-- behind the first m constraints of `old`, `new` has those of the slots below b, up to r
pub record Added (slots levels : List ℕ) (x b : ℕ) (old : List Constraint) (m : ℕ) (new : List Constraint) (r : ℕ) : Type 0 where
  pub more : m ≤ r
  pub few : r ≤ m + b
  pub kept : (z : ℕ) → z < m → constraint_at new z ≡ constraint_at old z
  pub lists : Lists slots levels x b new m r

-- the pairs below k have their lists, which end at m
pub record Connected (slots levels : List ℕ) (k m : ℕ) (net : List Constraint) (ends : List ℕ) : Type 0 where
  pub starts : get_or ends 0 0 ≡ 0
  pub end : get_or ends k 0 ≡ m
  pub few : m ≤ 16 * k
  pub rising : (x : ℕ) → x < k → (get_or ends x 0 ≤ get_or ends (x + 1) 0) × (get_or ends (x + 1) 0 ≤ get_or ends x 0 + 16) × (get_or ends (x + 1) 0 ≤ m)
  pub lists : (x : ℕ) → x < k → Lists slots levels x (slot_count slots) net (get_or ends x 0) (get_or ends (x + 1) 0)
