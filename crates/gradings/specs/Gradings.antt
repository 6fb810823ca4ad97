-- Which `Grading` a `Logic` stands for, with a list of terms.
-- Assumes nothing.
use Rattle.std.specs.Prelude.{List}
use Rattle.chain.specs.Connectives.{Connectives, zadeh}
use Rattle.semantics.specs.Terms.{Term}
use Rattle.semantics.specs.Interpretations.{Grading}
use Rattle.roles.specs.Tables.{hierarchy_in}
use Rattle.gradings.specs.declared.Logic.{Logic}

-- its connectives. Only the code of the connectives opens this; everyone else cites `logic-lawful`.
unfoldable pub connectives_of : Logic → Connectives
connectives_of l = zadeh l.steps

abbrev pub grading : Logic → List Term → Grading
grading l ts = record { steps = l.steps; connectives = connectives_of l; terms = ts; above = hierarchy_in l.above }
