-- What deciding says of a book and what it sets, of the abstract book alone. Document 01, "Types and links".
-- Assumes nothing.
use Rattle.std.proofs.Math.Logic.{ite}
use Rattle.std.proofs.Math.Option.{Option, none, some}
use Rattle.std.proofs.Math.Decide.{ℕ_discrete}
use mathlib.Core.List.{List, ◌++◌, flat_map}
use Rattle.std.specs.Prelude.{ℕ, ◌*◌, length, drop, Result, Ok, Err}
use Rattle.encoding.specs.Words.{word_bytes}
use Rattle.semantics.specs.Books.{Book}
use Rattle.elimination.specs.Survivors.{survivors_of}
use Rattle.placement.specs.Outcome.{outcome}
use Rattle.refusals.specs.declared.Refusal.{Refusal}
use Rattle.decisions.specs.declared.Outcome.{Outcome}
use Rattle.decisions.specs.declared.Outcome.TheVariants.{HoldsTogether, ClaimsFail, NoModel}
use Rattle.decisions.specs.declared.Decision.{Decision}

-- "Outcomes: 1 holds together; 2 the rules have a model but none meets the claims; 3 the rules have none."
abbrev pub outcome_number : Outcome → ℕ
outcome_number HoldsTogether = 1
outcome_number ClaimsFail = 2
outcome_number NoModel = 3

-- the outcome with a number (`numbered-outcome` of proofs/Decided)
abbrev pub outcome_numbered : ℕ → Outcome
outcome_numbered n = ite (ℕ_discrete n 1) HoldsTogether (ite (ℕ_discrete n 2) ClaimsFail NoModel)

-- "the outcome and the number of survivors"
abbrev pub decision : Book → Decision
decision B = record { outcome = outcome_numbered (outcome B); survivors = length (survivors_of B) }

-- the number of survivors in an answer; 0 for a refusal
abbrev pub survivors_in : Result Decision Refusal → ℕ
survivors_in (Err r) = 0
survivors_in (Ok d) = d.survivors

-- "the placement: two bytes per individual"; the bytes past it are kept, and all where there is none
abbrev pub placed_in : Option (List ℕ) → (buffer : List ℕ) → List ℕ
placed_in none buffer = buffer
placed_in (some p) buffer = flat_map word_bytes p ++ drop (2 * length p) buffer
