-- `printout::Text::individual_lines` meets its contract. Before individual `j` the lines of those before it have been added.
-- Assumes nothing.
use mathlib.Core.Path.{◌≡◌, refl, ap}
use Prim.Native.Nat.{ℕ, ◌*◌}
use native.Mathlib.Omega.{arith}
use mathlib.Core.List.{List}
use Rattle.encoding.specs.Words.{word_at}
use Rattle.printout.specs.Lines.{individual_line, individual_lines}
use Rattle.printout.proofs.Lines.{individuals-none, individuals-more}
use Rattle.printout.proofs.Adding.{added_none, added_then, added_same}
use Rattle.printout.proofs.Text.individual_lines.Goals as goal

abbrev placed : List ℕ → ℕ → ℕ
placed p j = word_at p (2 * j)

pub loop-j-init : goal.loop-j-init
loop-j-init c = record {
  ends = omega arith;
  added = added_same (individuals-none (placed c.args.placement.now)) (added_none _ _);
  same_buffer = refl;
}

pub individual_line-requires : goal.individual_line-requires
individual_line-requires c = omega arith

pub loop-j-preserved : goal.loop-j-preserved
loop-j-preserved c =
    let j = c.loop-j.j in
    record {
      ends = omega arith;
      added = added_same (individuals-more (placed c.args.placement.now) j)
          (added_then c.loop-j.invariant.added (added_same (ap (individual_line j) c.word.ensures.0) c.individual_line.ensures.added));
      same_buffer = cc;
    }

pub returns : goal.returns
returns c =
    let e : c.loop-j.j ≡ c.args.count = omega arith in
    record {
      added = added_same (ap (individual_lines (placed c.args.placement.now)) e) c.loop-j.invariant.added;
      upper_bound = omega arith;
      same_buffer = c.loop-j.invariant.same_buffer;
    }
