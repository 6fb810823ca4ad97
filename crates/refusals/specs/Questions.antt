-- Questions in order. Document 01, "The checks, as questions": "The first "no" gives the number."
-- Assumes nothing.
use Rattle.std.specs.Prelude.{◌≡◌, ◌↔◌, Bool, true, false, List, [], ◌∷◌, ℕ}
use Rattle.std.proofs.Math.Option.{Option, none, some}
use Rattle.chain.specs.Decisions.{says}
use Rattle.refusals.specs.Refusals.{number_of}
use Rattle.refusals.specs.declared.Refusal.{Refusal}

-- the refusal where the answer is no, and the answer
pub record Question : Type 0 where
  pub refusal : Refusal
  pub answer : Bool

-- "Is it so? n"
abbrev pub ask : {A : Type 0} → Refusal → Dec A → Question
ask r d = record { refusal = r; answer = says d }

-- the refusal of the first question that says no; none where all say yes
unfoldable pub first_no : List Question → Option Refusal
first_no [] = none
first_no (q ∷ qs) = elim q.answer [ true ↦ first_no qs | false ↦ some q.refusal ]

-- ---- the first no as a number, 0 where there is none

-- n tells the first no of the questions
pub record TellsFirstNo (qs : List Question) (n : ℕ) : Type 0 where
  pub answered : (n ≡ 0) ↔ (first_no qs ≡ none)
  pub refused : (r : Refusal) → first_no qs ≡ some r → n ≡ number_of r

abbrev pub or_zero : Option Refusal → ℕ
or_zero none = 0
or_zero (some r) = number_of r
