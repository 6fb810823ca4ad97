-- `models::list_next` meets its contract.
-- Assumes nothing.
use Prim.Native.Nat.{◌<◌}
use native.Mathlib.Omega.{arith}
use lib.ListN.{length}
use Rattle.models.proofs.Listing.{lists-more, lists-same, lists-few, lists-room}
use Rattle.models.proofs.list_next.Goals as goal

pub returns-then-marks-c-ne1 : goal.returns-then-marks-c-ne1
returns-then-marks-c-ne1 c =
    lists-same c.args.marks.now c.args.c c.args.found c.args.types.now c.if-marks-c-ne1.true c.requires.lists

pub offset_bounds-types-found : goal.offset_bounds-types-found
offset_bounds-types-found c = record { fits = omega (arith, (let h : c.args.found < 16384 = omega (arith, lists-few c.args.marks.now c.args.c c.args.found c.args.types.now c.requires.lists, c.requires.c_bound.0) in h)) }

pub bounds-types-found : goal.bounds-types-found
bounds-types-found c = (let h : c.args.found < length c.args.types.now = lists-room c.args.marks.now c.args.c c.args.found c.args.types.now c.if-marks-c-ne1.false c.requires.lists c.requires.c_bound.2 in h)

pub overflow_add-result : goal.overflow_add-result
overflow_add-result c = record { fits = omega (arith, (let h : c.args.found < 16384 = omega (arith, lists-few c.args.marks.now c.args.c c.args.found c.args.types.now c.requires.lists, c.requires.c_bound.0) in h)) }

pub returns : goal.returns
returns c =
    lists-more c.args.marks.now c.args.c c.args.found c.args.types.now (let h : c.args.found < length c.args.types.now = lists-room c.args.marks.now c.args.c c.args.found c.args.types.now c.if-marks-c-ne1.false c.requires.lists c.requires.c_bound.2 in h) c.if-marks-c-ne1.false c.requires.lists
