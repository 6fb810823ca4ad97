-- `decisions::write_placement` meets its contract.
-- Assumes nothing.
use mathlib.Core.Path.{◌∙◌}
use native.Mathlib.Omega.{arith}
use Rattle.decisions.proofs.Decided.{placement_start, placement_turn, placement-end}
use Rattle.decisions.proofs.write_placement.Goals as goal

pub loop-i-init : goal.loop-i-init
loop-i-init c = record { same_length = omega arith; written = placement_start c.args.seats.now c.args.placement.now }

pub loop-i-preserved : goal.loop-i-preserved
loop-i-preserved c =
    let l = c.loop-i in
    record {
      same_length = omega (arith, c.write_word.auto, l.invariant.same_length);
      written = c.write_word.ensures ∙ placement_turn c.args.seats.now c.args.placement.now l.i l.placement (omega arith) c.requires
          l.invariant.same_length l.invariant.written;
    }

pub returns : goal.returns
returns c = placement-end c.args.seats.now c.args.placement.now c.loop-i.i c.loop-i.placement (omega arith) c.loop-i.invariant.written
