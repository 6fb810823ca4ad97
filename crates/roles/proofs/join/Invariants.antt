-- `roles::join` meets its contract. The roles below `s` were added.
-- Assumes nothing.
use Rattle.roles.specs.Tables.{Joined}
use Rattle.roles.proofs.join.Given as goal

abbrev pub invariant-loop-s : goal.invariant-loop-s
invariant-loop-s l = Joined l.r l.u l.s l.initial.above l.above
