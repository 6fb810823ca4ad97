-- `subsumption::narrow_all` meets its contract. The types of the marked candidates before `c` have been looked at.
-- Assumes nothing.
use mathlib.Core.Path.{◌≡◌, refl}
use Prim.Native.Nat.{ℕ, ◌-◌, ◌≤◌, ◌<◌}
use native.Mathlib.Omega.{arith}
use lib.ListN.{length}
use borrow.Author.Rules.{rules}
use Rattle.types.specs.Candidates.{grade_in}
use Rattle.sections.specs.Terms.{term_count, terms_of}
use Rattle.gradings.specs.Gradings.{grading}
use Rattle.elimination.specs.Marks.{Marked}
use Rattle.term_sets.specs.Sets.{Narrowed}
use Rattle.term_sets.proofs.Sets.{narrowed_not, narrowed_then, below_next}
use Rattle.subsumption.proofs.narrow_all.Goals as goal

pub loop-c-init : goal.loop-c-init
loop-c-init c =
    narrowed_not (term_count c.args.grader.now.terms.now) c.args.sets.now c.args.sets.now _ (λ i j h l d k. absurd (omega arith)) refl

pub loop-c-preserved : goal.loop-c-preserved
loop-c-preserved c =
    let g = c.args.grader.now in
    let G = grading g.logic (terms_of g.terms.now) in
    narrowed_then (term_count g.terms.now) c.args.sets.now c.loop-c.sets _ c.narrow_marked.new.sets _ _ (λ i j h l.
    below_next (λ d. Marked c.args.marks.now d → grade_in G d i ≤ grade_in G d j) c.loop-c.c) c.loop-c.invariant c.narrow_marked.ensures
