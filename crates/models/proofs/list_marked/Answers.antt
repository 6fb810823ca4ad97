-- `models::list_marked` meets its contract. The marked candidates below `c` are listed.
-- Assumes nothing.
use mathlib.Core.Path.{◌≡◌}
use Prim.Native.Nat.{◌+◌}
use native.Mathlib.Omega.{arith}
use Rattle.models.proofs.Listing.{lists-none, marked_mono}
use Rattle.models.proofs.list_marked.Goals as goal

pub loop-c-init : goal.loop-c-init
loop-c-init c = lists-none c.args.marks.now c.args.types.now

pub list_next-found-requires : goal.list_next-found-requires
list_next-found-requires c = record {
  c_bound = (
    omega arith,
    omega arith,
    omega (arith, marked_mono c.args.marks.now (c.loop-c.c + 1) c.args.count (omega (arith, c.loop-c-test.true))),
  );
  lists = c.loop-c.invariant;
}

pub returns : goal.returns
returns c =
    let e : c.loop-c.c ≡ c.args.count = omega arith in
    rw e at c.loop-c.invariant
