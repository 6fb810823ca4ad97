-- `roles::follow_all` meets its contract. The pairs from `i` on were followed.
-- Assumes nothing.
use lib.ListN.{drop}
use Rattle.claims.specs.Pairs.{pairs_of}
use Rattle.roles.specs.Tables.{Reaches}
use Rattle.roles.proofs.follow_all.Given as goal

abbrev pub invariant-loop-i : goal.invariant-loop-i
invariant-loop-i l = Reaches (drop l.i (pairs_of l.pairs)) l.above
