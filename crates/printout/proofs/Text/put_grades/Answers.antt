-- `printout::Text::put_grades` meets its contract. Before each grade the grades before it have been added.
-- Assumes nothing.
use mathlib.Core.Path.{◌≡◌, refl, ap}
use mathlib.Core.List.{flat_map}
use native.Mathlib.Omega.{arith}
use lib.ListN.{length}
use lib.Seq.{take-length}
use Rattle.printout.specs.Lines.{spaced}
use Rattle.printout.proofs.Lines.{flat_map_start, flat_map-next, length-spaced}
use Rattle.printout.proofs.Adding.{added_none, added_then, added_same}
use Rattle.printout.proofs.Text.put_grades.Goals as goal

pub loop-g-init : goal.loop-g-init
loop-g-init c = record {
  ends = omega arith;
  added = added_same (flat_map_start spaced c.args.row.now) (added_none _ _);
  same_buffer = refl;
}

pub put_grade-requires : goal.put_grade-requires
put_grade-requires c = (c.requires.0 c.loop-g.g-index, omega arith)

pub loop-g-preserved : goal.loop-g-preserved
loop-g-preserved c = record {
  ends = omega (arith, length-spaced _ (c.requires.0 c.loop-g.g-index));
  added = added_same (flat_map-next spaced c.args.row.now c.loop-g.g-index (omega arith)) (added_then c.loop-g.invariant.added c.put_grade.ensures.added);
  same_buffer = cc;
}

pub returns : goal.returns
returns c =
    let e : c.loop-g.g-index ≡ length c.args.row.now = omega arith in
    record {
      added = added_same (ap (flat_map spaced) (rw e (take-length c.args.row.now))) c.loop-g.invariant.added;
      value = omega arith;
      same_buffer = c.loop-g.invariant.same_buffer;
    }
