-- Questions in order. Document 01, "The checks, as questions": "The first "no" gives the number."
-- Assumes nothing.
use Rattle.std.specs.Prelude.{◌≡◌, ◌↔◌, Bool, true, false, List, [], ◌∷◌, ℕ, ◌<◌}
use Rattle.std.proofs.Math.Option.{Option, none, some}
use Rattle.std.proofs.Math.Decide.{dec_lt}
use Rattle.chain.specs.Decisions.{says}
use Rattle.chain.specs.Lists.{Each, each?}

-- a question's number, and its answer
pub record Question : Type 0 where
  pub number : ℕ
  pub answer : Bool

-- "Is it so? n"
abbrev pub ask : {A : Type 0} → ℕ → Dec A → Question
ask n d = record { number = n; answer = says d }

-- the number of the first question that says no; none where all say yes
unfoldable pub first_no : List Question → Option ℕ
first_no [] = none
first_no (q ∷ qs) = elim q.answer [ true ↦ first_no qs | false ↦ some q.number ]

-- ---- the first no as a number, 0 where there is none

-- r tells the first no of the questions
pub record TellsFirstNo (qs : List Question) (r : ℕ) : Type 0 where
  pub answered : (r ≡ 0) ↔ (first_no qs ≡ none)
  pub refused : (n : ℕ) → first_no qs ≡ some n → r ≡ n

abbrev pub or_zero : Option ℕ → ℕ
or_zero none = 0
or_zero (some n) = n

-- 0 is no question's number
abbrev pub Numbered : List Question → Type 0
Numbered = Each (λ q. 0 < q.number)

abbrev pub numbered? : (qs : List Question) → Dec (Numbered qs)
numbered? = each? (λ q. dec_lt 0 q.number)
