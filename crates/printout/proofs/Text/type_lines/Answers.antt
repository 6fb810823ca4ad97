-- `printout::Text::type_lines` meets its contract. Before candidate `first` + `i` the lines of those before it have been added.
-- Assumes nothing.
use mathlib.Core.Path.{◌≡◌, refl}
use mathlib.Core.List.{List}
use Prim.Native.Nat.{ℕ}
use native.Mathlib.Omega.{arith}
use Rattle.gradings.specs.Gradings.{grading}
use Rattle.gradings.specs.declared.Logic.{Logic}
use Rattle.sections.specs.Terms.{terms_of}
use Rattle.grades.specs.Rows.{row_of}
use Rattle.elimination.specs.Marks.{marked?}
use Rattle.printout.proofs.Lines.{types-none, types_more, types-all}
use Rattle.printout.proofs.Adding.{added_none, added_then, added_same}
use Rattle.printout.proofs.Text.type_lines.Goals as goal

abbrev rows : (terms : List ℕ) (logic : Logic) → ℕ → List ℕ
rows terms logic = row_of (grading logic (terms_of terms))

pub loop-i-init : goal.loop-i-init
loop-i-init c = record {
  ends = omega arith;
  added = added_same (types-none (rows c.args.terms.now c.args.logic) (marked? c.args.marks.now) c.args.first) (added_none _ _);
  same_buffer = refl;
}

pub put_marked-requires : goal.put_marked-requires
put_marked-requires c = record {
  steps_bound = rw c.new-grader.ensures.logic_is c.requires.terms_bound.1;
  at_in_bounds = (omega arith, omega arith, omega arith);
}

pub loop-i-preserved : goal.loop-i-preserved
loop-i-preserved c =
    let loop = c.loop-i in
    let g = c.new-grader.ensures in
    record {
      ends = omega arith;
      added = added_same (types_more (rows c.args.terms.now c.args.logic) (marked? c.args.marks.now) c.args.first loop.i)
          (added_then loop.invariant.added (rw (g.logic_is, g.terms_are) at c.put_marked.ensures.added));
      same_buffer = cc;
    }

pub returns : goal.returns
returns c =
    let loop = c.loop-i in
    let e : loop.i ≡ c.args.count = omega arith in
    record {
      added = added_same (rw e (types-all (rows c.args.terms.now c.args.logic) (marked? c.args.marks.now) c.args.first c.args.count)) loop.invariant.added;
      upper_bound = omega arith;
      same_buffer = loop.invariant.same_buffer;
    }
