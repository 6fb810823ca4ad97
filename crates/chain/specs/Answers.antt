-- What a call answers, and what it leaves in its buffers: by its questions, and by a value for where all of them say yes. Document 01, "The checks,
-- as questions": "The first "no" gives the number."; "A refusal changes no buffer".
-- Assumes nothing.
use Rattle.std.proofs.Math.Option.{Option, none, some}
use Rattle.std.specs.Prelude.{List, ℕ}
use Rattle.chain.specs.Questions.{Question, first_no}

-- by the first no
abbrev pub answer_by : {A : Type 0} → (refused : ℕ → A) (value : A) → Option ℕ → A
answer_by refused value none = value
answer_by refused value (some n) = refused n

-- the value, where no question says no, and else the refusal with the number of the first no
abbrev pub answer : {A : Type 0} → (refused : ℕ → A) (value : A) → List Question → A
answer refused value qs = answer_by refused value (first_no qs)

-- a buffer: as it is filled, where no question says no, and else as it was
abbrev pub left : (was filled : List ℕ) → List Question → List ℕ
left was filled = answer (λ _. was) filled
