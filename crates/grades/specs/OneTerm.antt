-- What one term comes to in a pass over a section of terms: its grade from those of the terms before it, and the digits that it leaves
-- of the candidate.
-- Assumes nothing.
use Rattle.std.proofs.Math.Logic.{ite}
use Rattle.std.specs.Prelude.{List, ℕ, ◌/◌, length, get_or}
use Rattle.std.proofs.Math.Decide.{dec_lt}
use Rattle.semantics.specs.Terms.{Term, Carrier, local}
use Rattle.types.specs.Candidates.{opens?}
use Rattle.gradings.specs.Gradings.{connectives_of}
use Rattle.gradings.specs.declared.Logic.{Logic}
use Rattle.sections.specs.Terms.{term_at}

-- the table of terms by the logic l, where a place has the grade d
abbrev pub with_places : Logic → (d : ℕ) → Carrier ℕ
with_places l d = record {
  at_name = λ i a. d;
  at_not = (connectives_of l).negation;
  at_and = (connectives_of l).conjunction;
  at_or = (connectives_of l).disjunction;
  at_some = λ i r x. d;
  at_all = λ i r x. d;
  at_top = l.steps;
  at_bottom = 0;
}

-- the grade of the place of the next term, where xs has the grades of the terms before it: that of the earlier term which opens it, or the digit d
unfoldable pub grade_of_place : (d home : ℕ) (xs : List ℕ) → ℕ
grade_of_place d home xs = ite (dec_lt home (length xs)) (get_or xs home 0) d

-- and what it leaves of the digits in base B: where it opens the place, it takes the lowest one off
unfoldable pub rest_of_place : (B home : ℕ) (xs : List ℕ) → ℕ → ℕ
rest_of_place B home xs c = ite (dec_lt home (length xs)) c (c / B)

-- the table's grade for the next term of the section, where xs has the grades of those before it
unfoldable pub next_grade : Logic → (d home : ℕ) (s xs : List ℕ) → ℕ
next_grade l d home s xs = local (with_places l (grade_of_place d home xs)) (length xs) (term_at s (length xs)) (λ j. get_or xs j 0)

-- what term i leaves of a candidate's digits in base B: where it opens a place, it takes the lowest one off
unfoldable pub rest_after : (B : ℕ) (ts : List Term) (i : ℕ) → ℕ → ℕ
rest_after B ts i c = ite (opens? ts i) (c / B) c
