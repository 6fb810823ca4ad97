-- `roles::follow` meets its contract. The pair was followed in the rows below `r`.
-- Assumes nothing.
use Prim.Native.Nat.{◌<◌}
use Rattle.roles.specs.Tables.{Linked}
use Rattle.roles.proofs.follow.Given as goal

abbrev pub invariant-loop-r : goal.invariant-loop-r
invariant-loop-r l = record {
  lower_lt : l.lower < 8;
  upper_lt : l.upper < 8;
  linked : Linked l.lower l.upper l.r l.initial.above l.above;
}
