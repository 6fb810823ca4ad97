-- What a call answers, and what it leaves in its buffers: by its questions, and by a value for where all of them say yes. Document 01, "The checks,
-- as questions": "The first "no" gives the number."; "A refusal changes no buffer".
-- Assumes nothing.
use Rattle.std.proofs.Math.Option.{Option, none, some}
use Rattle.std.specs.Prelude.{List, ℕ, Result, Ok, Err}
use Rattle.refusals.specs.Questions.{Question, first_no}
use Rattle.refusals.specs.declared.Refusal.{Refusal}

-- by the first no
abbrev pub checked_by : {A : Type 0} → (refused : Refusal → A) (value : A) → Option Refusal → A
checked_by refused value none = value
checked_by refused value (some r) = refused r

-- the value, where no question says no, and else what follows from the refusal
abbrev pub checked : {A : Type 0} → (refused : Refusal → A) (value : A) → List Question → A
checked refused value qs = checked_by refused value (first_no qs)

-- an answer: the value, or the refusal
abbrev pub answer : {A : Type 0} → (value : A) → List Question → Result A Refusal
answer value = checked Err (Ok value)

-- a buffer: as it is filled, or as it was
abbrev pub left : (was filled : List ℕ) → List Question → List ℕ
left was filled = checked (λ _. was) filled

-- the refusal in an answer; none for a value
abbrev pub refusal_in : {A : Type 0} → Result A Refusal → Option Refusal
refusal_in (Ok x) = none
refusal_in (Err r) = some r
