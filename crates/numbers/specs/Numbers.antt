-- The answers as numbers, which is how callers in C get them: a refusal is its number, with 0 for everything else, and in any other answer the
-- refusal is 0. `Refusals` says that the two cannot be confused.
-- Assumes nothing.
use Rattle.std.specs.Prelude.{ℕ, Result, Ok, Err}
use Rattle.refusals.specs.Answers.{refusal_in}
use Rattle.refusals.specs.Questions.{or_zero}
use Rattle.refusals.specs.Refusals.{number_of}
use Rattle.refusals.specs.declared.Refusal.{Refusal}
use Rattle.decisions.specs.Decided.{outcome_number}
use Rattle.decisions.specs.declared.Decision.{Decision}
use Rattle.working.specs.declared.Verdict.{Verdict}
use Rattle.working.specs.declared.Verdict.TheVariants.{Meets, BreaksRule, BreaksPair, BreaksMembership, BreaksLink}
use Rattle.numbers.specs.declared.CountedNumbers.{CountedNumbers}
use Rattle.numbers.specs.declared.DecidedNumbers.{DecidedNumbers}
use Rattle.numbers.specs.declared.ImpliedNumbers.{ImpliedNumbers}
use Rattle.numbers.specs.declared.WrittenNumbers.{WrittenNumbers}
use Rattle.numbers.specs.declared.WorkedNumbers.{WorkedNumbers}
use Rattle.numbers.specs.declared.GradedNumbers.{GradedNumbers}

abbrev pub checked_number : {A : Type 0} → Result A Refusal → ℕ
checked_number a = or_zero (refusal_in a)

abbrev pub counted_numbers : Result ℕ Refusal → CountedNumbers
counted_numbers (Err r) = record { refusal = number_of r; candidates = 0 }
counted_numbers (Ok k) = record { refusal = 0; candidates = k }

abbrev pub decided_numbers : Result Decision Refusal → DecidedNumbers
decided_numbers (Err r) = record { refusal = number_of r; outcome = 0; survivors = 0 }
decided_numbers (Ok d) = record { refusal = 0; outcome = outcome_number d.outcome; survivors = d.survivors }

abbrev pub implied_numbers : Result ℕ Refusal → ImpliedNumbers
implied_numbers (Err r) = record { refusal = number_of r; survivors = 0 }
implied_numbers (Ok k) = record { refusal = 0; survivors = k }

abbrev pub written_numbers : Result ℕ Refusal → WrittenNumbers
written_numbers (Err r) = record { refusal = number_of r; length = 0 }
written_numbers (Ok l) = record { refusal = 0; length = l }

-- the verdict's own number, then the number of the rule, pair or claim broken, for a rule the lowest element, and for a pair the lowest first and then
-- second one
abbrev pub verdict_numbers : Verdict → WorkedNumbers
verdict_numbers Meets = record { refusal = 0; verdict = 0; number = 0; element = 0; second = 0 }
verdict_numbers (BreaksRule k e) = record { refusal = 0; verdict = 1; number = k; element = e; second = 0 }
verdict_numbers (BreaksPair k e f) = record { refusal = 0; verdict = 4; number = k; element = e; second = f }
verdict_numbers (BreaksMembership k) = record { refusal = 0; verdict = 2; number = k; element = 0; second = 0 }
verdict_numbers (BreaksLink k) = record { refusal = 0; verdict = 3; number = k; element = 0; second = 0 }

abbrev pub worked_numbers : Result Verdict Refusal → WorkedNumbers
worked_numbers (Err r) = record { refusal = number_of r; verdict = 0; number = 0; element = 0; second = 0 }
worked_numbers (Ok v) = verdict_numbers v

abbrev pub graded_numbers : Result ℕ Refusal → GradedNumbers
graded_numbers (Err r) = record { refusal = number_of r; grade = 0 }
graded_numbers (Ok g) = record { refusal = 0; grade = g }
