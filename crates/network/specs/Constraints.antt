-- Constraints: what one slot asks of two individuals' rows of slots, through a link of a claimed level from the one to the other.
-- Assumes nothing.
use Rattle.std.specs.Prelude.{List, ℕ, ◌≤◌, ◌<◌, length, get_or}
use Rattle.chain.specs.Connectives.{Permits}
use Rattle.sections.specs.Values.{as_quantifier}
use Rattle.sections.specs.declared.Quantifier.TheVariants.{Existential}
use Rattle.gradings.specs.Gradings.{connectives_of}
use Rattle.gradings.specs.declared.Logic.{Logic}
use Rattle.grades.specs.Rows.{entry}
use Rattle.network.specs.declared.Constraint.{Constraint}
use Rattle.network.specs.declared.End.{End}
use Rattle.network.specs.declared.End.TheVariants.{Source, Target}

-- the column that it reads of the row at one end
abbrev pub column_at : End → Constraint → ℕ
column_at Source k = k.own
column_at Target k = k.child

module _ (s : List Constraint) where
  abbrev pub constraint_count : ℕ
  constraint_count = length s

  abbrev pub constraint_at : ℕ → Constraint
  constraint_at y = get_or s y (record { quantifier = Existential; level = 0; own = 0; child = 0 })

-- the slot allows a link of this level: by the row a of the link's source and the row b of its target
abbrev pub Met : Logic → Constraint → (a b : List ℕ) → Type 0
Met l k a b = Permits (connectives_of l) (as_quantifier k.quantifier) k.level (entry b k.child) (entry a k.own)

-- every constraint of the list is met
abbrev pub AllMet : Logic → (s : List Constraint) (a b : List ℕ) → Type 0
AllMet l s a b = (y : ℕ) → y < constraint_count s → Met l (constraint_at s y) a b

-- a constraint on columns below m, on the chain
pub record ConstraintRight (l : Logic) (m : ℕ) (k : Constraint) : Type 0 where
  pub level_le : k.level ≤ l.steps
  pub own_lt : k.own < m
  pub child_lt : k.child < m

abbrev pub AllRight : Logic → (m : ℕ) (s : List Constraint) → Type 0
AllRight l m s = (y : ℕ) → y < constraint_count s → ConstraintRight l m (constraint_at s y)
