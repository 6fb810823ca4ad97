-- `printout::Text::put_marked` meets its contract.
-- Assumes nothing.
use mathlib.Core.Path.{refl, sym}
use mathlib.Core.Logic.{if_pos, if_neg}
use native.Mathlib.Omega.{arith}
use Rattle.elimination.specs.Marks.{marked?}
use Rattle.printout.proofs.Adding.{added_none, added_same}
use Rattle.printout.proofs.Text.put_marked.Goals as goal

pub returns-then-marks-c-eq1 : goal.returns-then-marks-c-eq1
returns-then-marks-c-eq1 c = record {
  added = added_same (sym (if_pos (marked? c.args.marks.now c.args.c) (omega arith) _ _)) c.type_line.ensures.added;
  upper_bound = c.type_line.ensures.upper_bound;
  same_buffer = c.type_line.ensures.same_buffer;
}

pub returns-else-marks-c-eq1 : goal.returns-else-marks-c-eq1
returns-else-marks-c-eq1 c = record {
  added = added_same (sym (if_neg (marked? c.args.marks.now c.args.c) (λ e. omega arith) _ _)) (added_none _ _);
  upper_bound = omega arith;
  same_buffer = refl;
}
