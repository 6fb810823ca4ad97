-- `printout::Text::individual_lines` meets its contract. Before individual `j` the lines of those before it have been added.
-- Assumes nothing.
use Prim.Native.Nat.{ℕ, ◌≤◌, ◌+◌, ◌*◌}
use mathlib.Core.Path.{◌≡◌}
use mathlib.Core.List.{List}
use Rattle.encoding.specs.Words.{word_at}
use Rattle.printout.specs.Text.{Added}
use Rattle.printout.specs.Lines.{individual_lines}
use Rattle.printout.proofs.Text.individual_lines.Given as goal

abbrev placed : List ℕ → ℕ → ℕ
placed p j = word_at p (2 * j)

abbrev pub invariant-loop-j : goal.invariant-loop-j
invariant-loop-j l =
    let before = l.initial.self in
    record {
      ends : l.self.end ≤ before.end + 192 * l.j;
      added : Added before.buffer.now before.end (individual_lines (placed l.placement) l.j) l.self.buffer.now l.self.end;
      same_buffer : l.self.buffer.ghost_name ≡ before.buffer.ghost_name;
    }
