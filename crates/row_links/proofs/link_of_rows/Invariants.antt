-- `row_links::link_of_rows` meets its contract. No level above `level` is allowed, so the link is the greatest up to it.
-- Assumes nothing.
use mathlib.Core.Path.{◌≡◌}
use Rattle.chain.specs.Search.{greatest}
use Rattle.semantics.specs.Links.{allows?, link_between}
use Rattle.gradings.specs.Gradings.{grading}
use Rattle.sections.specs.Terms.{terms_of}
use Rattle.grades.specs.Rows.{entry}
use Rattle.row_links.proofs.link_of_rows.Given as goal

abbrev pub invariant-loop-level : goal.invariant-loop-level
invariant-loop-level l =
    let G = grading l.grader.logic (terms_of l.grader.terms.now) in
    link_between G l.role (entry l.first) (entry l.second) ≡ greatest (allows? G l.role (entry l.first) (entry l.second)) l.level
