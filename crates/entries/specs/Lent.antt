-- The theory that code is lent.
-- Assumes nothing.
use Rattle.std.specs.Prelude.{List}
use Rattle.semantics.specs.Interpretations.{Grading}
use Rattle.semantics.specs.Books.{Rule}
use Rattle.sections.specs.Terms.{terms_of}
use Rattle.claims.specs.Rules.{rules_of}
use Rattle.gradings.specs.Gradings.{grading}
use Rattle.entries.specs.declared.theory.Theory.{Theory}

abbrev pub grading_of : Theory → Grading
grading_of t = grading t.grader.now.logic (terms_of t.grader.now.terms.now)

abbrev pub rules_in : Theory → List Rule
rules_in t = rules_of t.rules.now
