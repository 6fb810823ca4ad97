-- Laws of what a `Logic` stands for.
-- Assumes nothing.
use mathlib.Core.Path.{◌≡◌, ap}
use mathlib.Core.List.{List}
use Rattle.chain.specs.Connectives.{Lawful, zadeh}
use Rattle.chain.proofs.Connectives.{zadeh-lawful}
use Rattle.semantics.specs.Terms.{Term, Ordered}
use Rattle.semantics.specs.Roles.{RolePair}
use Rattle.semantics.specs.Interpretations.{WellFormed, graded}
use Rattle.roles.specs.Tables.{Reaches}
use Rattle.roles.proofs.Tables.{reaches_hierarchy}
use Rattle.gradings.specs.Gradings.{connectives_of, grading}
use Rattle.gradings.specs.declared.Logic.{Logic}

pub logic-lawful : (l : Logic) → Lawful l.steps (connectives_of l)
unfolding connectives_of
logic-lawful l = zadeh-lawful l.steps

-- over ordered terms it is all that the theory asks
pub grading_well_formed : (l : Logic) (ts : List Term) → Ordered ts → WellFormed (grading l ts)
grading_well_formed l ts o = record { lawful = logic-lawful l; ordered = o }

-- where one is made: on N steps, with a table of what is reached by the pairs, it stands for the base connectives and these pairs
pub ranked-grading : (l : Logic) (ps : List RolePair) → Reaches ps l.above → (ts : List Term) → grading l ts ≡ graded l.steps ts ps
unfolding connectives_of
ranked-grading l ps of ts =
    ap (λ (h : List RolePair). record { steps = l.steps; connectives = zadeh l.steps; terms = ts; above = h }) (reaches_hierarchy ps l.above of)
