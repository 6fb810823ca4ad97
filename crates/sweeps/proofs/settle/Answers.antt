-- `sweeps::settle` meets its contract. The room is fresh; nothing else is asked of it here, as it is long.
-- Assumes nothing.
use Rattle.chain.proofs.Lists.{zeros-at}
use Rattle.zones.proofs.Rows.{zero_rows-at}
use Rattle.sweeps.proofs.settle.Goals as goal

pub settle_in-requires-clause-no_memory : goal.settle_in-requires-clause-no_memory
settle_in-requires-clause-no_memory c = zero_rows-at _ (zeros-at 16) 16384
