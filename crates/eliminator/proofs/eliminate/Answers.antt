-- `eliminator::eliminate` meets its contract.
-- Assumes nothing.
use Rattle.sections.specs.Terms.{terms_of}
use Rattle.sections.proofs.Terms.{length-terms, terms-ordered}
use Rattle.slots.proofs.Rows.{slots-below}
use Rattle.eliminator.proofs.eliminate.Goals as goal

pub invariant_of-theory-clause-rules_right : goal.invariant_of-theory-clause-rules_right
invariant_of-theory-clause-rules_right c = rw (c.new-grader.ensures.terms_are, length-terms c.args.terms.now) c.requires.task.rules_right

pub invariant_of-theory-clause-slots_right : goal.invariant_of-theory-clause-slots_right
invariant_of-theory-clause-slots_right c =
    let w = c.requires.task in
    let terms = c.args.terms.now in
    rw c.new-grader.ensures.terms_are (slots-below (terms_of terms) (terms-ordered terms w.terms_right) c.args.slots.now w.slots_are)
