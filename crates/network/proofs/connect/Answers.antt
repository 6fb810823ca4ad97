-- `network::connect` meets its contract.
-- Assumes nothing.
use Prim.Native.Nat.{◌≤◌}
use native.Mathlib.Omega.{arith}
use lib.ListN.{length}
use Rattle.chain.proofs.Lists.{zeros-long, zeros-at}
use Rattle.network.proofs.Links.{connected_network}
use Rattle.network.proofs.connect.Goals as goal

pub note_claims-requires : goal.note_claims-requires
note_claims-requires c = (c.requires.claims_ranged.0, zeros-long 512, zeros-at 512)

pub returns : goal.returns
returns c =
    let d = c.connect_by in
    let long : 1024 ≤ length d.new.constraints = omega (arith, c.requires.claims_ranged.1, d.auto.constraints) in
    (_, connected_network c.args.slots.now _ c.args.logic c.args.links.now _ _ d.ensures.0 c.note_claims.ensures long d.ensures.1)
