-- `classes::signature` meets its contract.
-- Assumes nothing.
use Rattle.std.proofs.Common.{◌<◌}
use Rattle.classes.proofs.signature.Given as goal

abbrev pub invariant-loop-t : goal.invariant-loop-t
invariant-loop-t l = l.number < 16384
