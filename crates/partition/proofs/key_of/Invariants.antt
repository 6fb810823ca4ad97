-- `partition::key_of` meets its contract. The key is a remainder throughout.
-- Assumes nothing.
use Prim.Native.Nat.{◌<◌}
use Rattle.partition.proofs.key_of.Given as goal

abbrev pub invariant-loop-x : goal.invariant-loop-x
invariant-loop-x l = l.key < 16384
