-- `printout::Text::type_lines` meets its contract. Before candidate `first` + `i` the lines of those before it have been added.
-- Assumes nothing.
use mathlib.Core.Path.{◌≡◌}
use mathlib.Core.List.{List, flat_map}
use Prim.Native.Nat.{ℕ, ◌≤◌, ◌+◌, ◌*◌}
use Rattle.chain.specs.Lists.{from}
use Rattle.gradings.specs.Gradings.{grading}
use Rattle.gradings.specs.declared.Logic.{Logic}
use Rattle.sections.specs.Terms.{terms_of}
use Rattle.grades.specs.Rows.{row_of}
use Rattle.elimination.specs.Marks.{marked?}
use Rattle.printout.specs.Text.{Added}
use Rattle.printout.proofs.Lines.{line_if}
use Rattle.printout.proofs.Text.type_lines.Given as goal

abbrev rows : (terms : List ℕ) (logic : Logic) → ℕ → List ℕ
rows terms logic = row_of (grading logic (terms_of terms))

abbrev pub invariant-loop-i : goal.invariant-loop-i
invariant-loop-i l =
    let before = l.initial.self in
    record {
      ends : l.self.end ≤ before.end + 192 * l.i;
      added : Added before.buffer.now before.end (flat_map (line_if (rows l.terms l.fn.logic) (marked? l.marks)) (from l.first l.i)) l.self.buffer.now l.self.end;
      same_buffer : l.self.buffer.ghost_name ≡ before.buffer.ghost_name;
    }
