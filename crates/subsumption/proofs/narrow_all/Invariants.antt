-- `subsumption::narrow_all` meets its contract. The types of the marked candidates before `c` have been looked at.
-- Assumes nothing.
use mathlib.Core.Path.{◌≡◌, refl}
use Prim.Native.Nat.{ℕ, ◌-◌, ◌≤◌, ◌<◌}
use native.Mathlib.Omega.{arith}
use lib.ListN.{length}
use borrow.Author.Rules.{rules}
use Rattle.types.specs.Candidates.{grade_in}
use Rattle.sections.specs.Terms.{term_count, terms_of}
use Rattle.gradings.specs.Gradings.{grading}
use Rattle.elimination.specs.Marks.{Marked}
use Rattle.term_sets.specs.Sets.{Narrowed}
use Rattle.term_sets.proofs.Sets.{narrowed_not, narrowed_then, below_next}
use Rattle.subsumption.proofs.narrow_all.Given as goal

abbrev pub invariant-loop-c : goal.invariant-loop-c
invariant-loop-c l = Narrowed (term_count l.grader.terms.now) l.initial.sets l.sets (λ i j. (d : ℕ) → d < l.c → Marked l.marks d
    → grade_in (grading l.grader.logic (terms_of l.grader.terms.now)) d i ≤ grade_in (grading l.grader.logic (terms_of l.grader.terms.now)) d j)
