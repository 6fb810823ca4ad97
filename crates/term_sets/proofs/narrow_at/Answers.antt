-- `term_sets::narrow_at` meets its contract. The sets of the first `i` left terms are narrowed.
-- Assumes nothing.
use Rattle.term_sets.proofs.Sets.{narrowed_none, narrowed_more}
use lib.ListN.{length}
use Rattle.term_sets.proofs.narrow_at.Goals as goal

pub loop-i-init : goal.loop-i-init
loop-i-init c = narrowed_none _ _ _

pub loop-i-preserved : goal.loop-i-preserved
loop-i-preserved c =
    let t = c.loop-i in
    let one = c.narrow_one in
    narrowed_more (length c.args.row.now) c.args.sets.now _ t.i t.sets one.new.sets t.invariant one.ensures.by_index (λ j l.
    let u = one.ensures.by_index_2 j in
    let g = c.gather-word.ensures j l in
    (λ b. let v = u.0 b in (v.0, λ e. g.0 (v.1 e)), λ v. u.1 (v.0, λ e. g.1 (v.1 e))))
