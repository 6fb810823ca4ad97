-- `roles::mark_own` meets its contract. The rows below `r` have their mark.
-- Assumes nothing.
use Rattle.roles.specs.Tables.{Diagonal}
use Rattle.roles.proofs.mark_own.Given as goal

abbrev pub invariant-loop-r : goal.invariant-loop-r
invariant-loop-r l = Diagonal l.r l.above
