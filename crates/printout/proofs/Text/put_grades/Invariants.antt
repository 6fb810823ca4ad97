-- `printout::Text::put_grades` meets its contract. Before each grade the grades before it have been added.
-- Assumes nothing.
use Prim.Native.Nat.{◌+◌, ◌*◌}
use mathlib.Core.Path.{◌≡◌}
use mathlib.Core.List.{flat_map}
use lib.ListN.{take}
use Rattle.printout.specs.Text.{Added}
use Rattle.printout.specs.Lines.{spaced}
use Rattle.printout.proofs.Text.put_grades.Given as goal

abbrev pub invariant-loop-g : goal.invariant-loop-g
invariant-loop-g l = record {
  ends : l.self.end ≡ l.initial.self.end + 2 * l.g-index;
  added : Added l.initial.self.buffer.now l.initial.self.end (flat_map spaced (take l.g-index l.row)) l.self.buffer.now l.self.end;
  same_buffer : l.self.buffer.ghost_name ≡ l.initial.self.buffer.ghost_name;
}
