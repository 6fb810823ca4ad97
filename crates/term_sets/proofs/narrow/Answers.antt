-- `term_sets::narrow` meets its contract. The left terms that are graded above `level` are done.
-- Assumes nothing.
use mathlib.Core.Path.{◌≡◌, refl}
use native.Mathlib.Omega.{arith}
use lib.ListN.{length, get_or}
use Rattle.term_sets.proofs.Sets.{narrowed_not, narrowed_same, narrowed_then, level_next, level_last}
use Rattle.term_sets.proofs.narrow.Goals as goal

pub loop-level-init : goal.loop-level-init
loop-level-init c =
    narrowed_not (length c.args.row.now) c.args.sets.now c.args.sets.now _ (λ i j h l g. absurd (omega (arith, c.requires.2 i))) refl

pub loop-level-preserved : goal.loop-level-preserved
loop-level-preserved c =
    let t = c.loop-level in
    narrowed_then (length c.args.row.now) c.args.sets.now t.sets _ c.narrow_at.new.sets _ _
    (λ i j h l. level_next t.level (get_or c.args.row.now i 0) (get_or c.args.row.now j 0) (omega (arith, c.loop-level-test.true)))
    t.invariant c.narrow_at.ensures

pub returns : goal.returns
returns c =
    let t = c.loop-level in
    let e : t.level ≡ 0 = omega (arith, c.loop-level-test.false) in
    narrowed_same (length c.args.row.now) c.args.sets.now t.sets _ _
    (λ i j h l. rw e (level_last (get_or c.args.row.now i 0) (get_or c.args.row.now j 0))) t.invariant
