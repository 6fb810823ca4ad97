-- `network::Network::all_met` meets its contract. The constraints so far are met.
-- Assumes nothing.
use Prim.Native.Nat.{ℕ, ◌<◌}
use Rattle.network.specs.Constraints.{constraint_at, Met}
use Rattle.network.proofs.Network.all_met.Given as goal

abbrev pub invariant-loop-constraint : goal.invariant-loop-constraint
invariant-loop-constraint l = (y : ℕ) → y < l.constraint-index → Met l.self.logic (constraint_at l.constraint-items y) l.source l.target
