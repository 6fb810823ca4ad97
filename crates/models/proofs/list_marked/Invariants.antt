-- `models::list_marked` meets its contract. The marked candidates below `c` are listed.
-- Assumes nothing.
use Rattle.models.specs.Listing.{Lists}
use Rattle.models.proofs.list_marked.Given as goal

abbrev pub invariant-loop-c : goal.invariant-loop-c
invariant-loop-c l = Lists l.marks l.c l.found l.types
