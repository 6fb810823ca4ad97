-- What code works out in one function: it decides, or it marks alone. It stands in private contracts only.
-- Assumes nothing.
use Rattle.std.specs.Prelude.{Bool, true, false, List, ℕ, Option, Some, None}
use Rattle.semantics.specs.Books.{Book}
use Rattle.placement.specs.Outcome.{placement, outcome}
use Rattle.decisions.specs.Decided.{outcome_numbered, placed_in}
use Rattle.decisions.specs.declared.Outcome.{Outcome}

abbrev pub outcome_if : (deciding : Bool) → Book → Option Outcome
outcome_if true B = Some (outcome_numbered (outcome B))
outcome_if false B = None

abbrev pub placed_if : (deciding : Bool) → Book → (buffer : List ℕ) → List ℕ
placed_if true B buffer = placed_in (placement B) buffer
placed_if false B buffer = buffer
