-- `subsumption::narrow_marked` meets its contract.
-- Assumes nothing.
use mathlib.Core.Path.{refl}
use borrow.Author.Rules.{rules}
use Rattle.sections.specs.Terms.{term_count}
use Rattle.term_sets.proofs.Sets.{narrowed_not, narrowed_same}
use Rattle.subsumption.proofs.narrow_marked.Goals as goal

pub returns-then-marks-c-eq1 : goal.returns-then-marks-c-eq1
returns-then-marks-c-eq1 c =
    let by = c.narrow_by in
    let taken = c.if-marks-c-eq1.true in
    narrowed_same (term_count c.args.grader.now.terms.now) c.args.sets.now by.new.sets _ _ (λ i j h l. (λ g _. g, λ g. g taken)) by.ensures

pub returns-else-marks-c-eq1 : goal.returns-else-marks-c-eq1
returns-else-marks-c-eq1 c =
    narrowed_not (term_count c.args.grader.now.terms.now) c.args.sets.now c.args.sets.now _ (λ i j h l m. absurd (c.if-marks-c-eq1.false m)) refl
