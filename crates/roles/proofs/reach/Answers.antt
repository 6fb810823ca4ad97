-- `roles::reach` meets its contract.
-- Assumes nothing.
use Rattle.chain.proofs.Lists.{zeros-at}
use Rattle.roles.proofs.reach.Goals as goal

pub mark_own-requires : goal.mark_own-requires
mark_own-requires c = zeros-at 64
