-- The theorems are not vacuous: for books of the readings, models are obtained from them, and that there is none.
-- Assumes nothing.
use mathlib.Core.Path.{◌≡◌, refl, ap, ◌∙◌}
use mathlib.Core.List.{List}
use Prim.Native.Nat.{ℕ}
use native.Mathlib.Decide.{ℕ_discrete}
use native.Mathlib.Omega.{arith}
use lib.ListN.{length}
use Rattle.chain.specs.Lists.{Each, table}
use Rattle.chain.proofs.Lists.{length-table, each_mem, mem_each}
use Rattle.semantics.specs.Books.{Satisfiable, RulesSatisfiable}
use Rattle.book.specs.Reading.{book_of}
use Rattle.decider.specs.Deciding.{Decidable, decision_of, outcome_in}
use Rattle.std.specs.Prelude.{Ok}
use Rattle.decider.proofs.Deciding.{decision_decided}
use Rattle.demands.specs.Demand3.{outcome_1_holds_together, outcome_2_claims_fail, outcome_3_no_model}
use Rattle.demands.specs.Readings.{Reading, link_reading, book_reading, Reads, readings, printed, under_some, some_bottom}
use Rattle.demands.proofs.Readings.{readings_on_file}

-- buffers that suffice
abbrev zeros : ℕ → List ℕ
zeros n = table (λ _. 0) n

-- what a reading's outcome says of models
abbrev Models : Reading → Type 0
Models (link_reading b c d l) = Unit {0}
Models (book_reading b o k ms ps) =
    (o ≡ 1 → Satisfiable (book_of b)) × (o ≡ 2 → RulesSatisfiable (book_of b) × ¬ Satisfiable (book_of b)) × (o ≡ 3 → ¬ RulesSatisfiable (book_of b))

models_of : (q : Reading) → Reads q → Models q
unfolding ℕ_discrete
models_of (link_reading b c d l) r = tt
models_of (book_reading b o k ms ps) r =
    let marks = zeros (length ms) in
    let buffer = zeros 16 in
    let said = (r marks buffer (omega (arith, length-table {A = ℕ} (λ _. 0) (length ms))) (omega (arith, length-table {A = ℕ} (λ _. 0) 16))).0 in
    let d : Decidable b (length marks) (length buffer) = (decision_decided _ _ _ said.1).0 in (
      λ e. (outcome_1_holds_together b marks buffer d).0 (ap outcome_in said.1 ∙ said.2 ∙ e),
      λ e. (outcome_2_claims_fail b marks buffer d).0 (ap outcome_in said.1 ∙ said.2 ∙ e),
      λ e. (outcome_3_no_model b marks buffer d).0 (ap outcome_in said.1 ∙ said.2 ∙ e),
    )

models : Each Models readings
models = mem_each {P = Models} readings (λ q m. models_of q (each_mem Reads readings readings_on_file q m))

-- the printed book has a model
pub printed_model : Satisfiable (book_of (printed 2))
printed_model = models.1.1.1.1.0.0 refl

-- with N 1 no interpretation of any size meets its rules
pub printed_1_none : ¬ RulesSatisfiable (book_of (printed 1))
printed_1_none = models.1.1.1.1.1.0.2 refl

-- A under "some r0 A" has a model
pub under_some_model : Satisfiable (book_of under_some)
under_some_model = models.1.1.1.1.1.1.1.0.0 refl

-- "some r0 bottom" at least 1: the rules have a model, and none meets the claim
pub some_bottom-fails : RulesSatisfiable (book_of some_bottom) × ¬ Satisfiable (book_of some_bottom)
some_bottom-fails = models.1.1.1.1.1.1.1.1.0.1 refl
