-- What eliminating asks of its arguments, and what it leaves.
-- Assumes nothing.
use Rattle.std.specs.Prelude.{◌≡◌, List, ℕ, ◌≤◌, length}
use Rattle.types.specs.Candidates.{candidates}
use Rattle.sections.specs.Terms.{term_count, terms_of, TermsRight}
use Rattle.claims.specs.Rules.{rules_of, RulesRight}
use Rattle.gradings.specs.Gradings.{grading}
use Rattle.gradings.specs.declared.Logic.{Logic}
use Rattle.slots.specs.Slots.{slot_count, SlotsOf}
use Rattle.elimination.specs.Survivors.{survivors}
use Rattle.elimination.specs.Marks.{marks_of}

-- the sections are right, the slots are the quantified terms, and there are `count` candidates
pub record Task (l : Logic) (terms slots rules : List ℕ) (count : ℕ) : Type 0 where
  pub terms_right : TermsRight terms
  pub rules_right : RulesRight rules (term_count terms)
  pub slots_are : SlotsOf (terms_of terms) slots
  pub few_terms : term_count terms ≤ 64
  pub few_slots : slot_count slots ≤ 16
  pub few_steps : l.steps ≤ 16
  pub few : count ≤ 16384
  pub counted : count ≡ candidates (grading l (terms_of terms))

-- the survivors' number comes back, and there is a mark for each of `count` candidates
abbrev pub Eliminated : Logic → (terms rules : List ℕ) (count r : ℕ) (marks : List ℕ) → Type 0
Eliminated l terms rules count r marks =
    let xs : List ℕ = survivors (grading l (terms_of terms)) (rules_of rules) in
    (r ≡ length xs) × (marks ≡ marks_of xs count)
