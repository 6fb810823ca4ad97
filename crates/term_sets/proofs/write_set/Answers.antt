-- `term_sets::write_set` meets its contract. The row begins with the bits before number `j`.
-- Assumes nothing.
use mathlib.Core.Path.{ap, ◌∙◌}
use mathlib.Core.List.{List}
use Prim.Native.Nat.{ℕ, ◌/◌, ◌%◌, ◌^◌}
use lib.ListN.{set}
use Rattle.chain.proofs.Lists.{zero_filled, set_filled}
use Rattle.term_sets.proofs.write_set.Goals as goal

pub loop-j-init : goal.loop-j-init
loop-j-init c = zero_filled _ _

pub loop-j-preserved : goal.loop-j-preserved
loop-j-preserved c =
    let t = c.loop-j in
    let bit : ℕ → ℕ = λ j. c.args.word / 2 ^ j % 2 in
    ap (λ (l : List ℕ). set l t.j (bit t.j)) t.invariant ∙ set_filled bit c.args.row.now t.j c.loop-j-test.true
