-- `places::count_places` meets its contract. `found` of the terms before `i` open a place.
-- Assumes nothing.
use mathlib.Core.Path.{sym, ap, ◌∙◌}
use Prim.Native.Nat.{ℕ, ◌+◌}
use native.Mathlib.Omega.{arith}
use Rattle.sections.specs.Terms.{terms_of}
use Rattle.places.proofs.Places.{open_before, none_open, open_more, open_same, all_open}
use Rattle.places.proofs.count_places.Goals as goal
use Rattle.places.proofs.count_places.Goals.{then-opens, else-opens}

pub loop-i-init : goal.loop-i-init
loop-i-init c = record { counted = sym (none_open (terms_of c.args.terms.now)); few = omega arith }

pub loop-i-preserved : goal.loop-i-preserved
loop-i-preserved c =
    let s = c.args.terms.now in
    let l = c.loop-i in
    let told = c.opens.ensures in
    elim c.if-opens.branch [
      | then-opens w ↦ record {
        counted = w.found-is ∙ ap (λ (n : ℕ). n + 1) l.invariant.counted ∙ open_more (terms_of s) l.i (told.0 w.if-opens.true);
        few = omega (arith, w.found-is, l.invariant.few);
      }
      | else-opens w ↦ record {
        counted = w.found-is ∙ l.invariant.counted ∙ open_same (terms_of s) l.i (told.1 w.if-opens.false);
        few = omega (arith, w.found-is, l.invariant.few);
      }
    ]

pub returns : goal.returns
returns c =
    let s = c.args.terms.now in
    c.loop-i.invariant.counted ∙ ap (open_before (terms_of s)) (omega arith) ∙ all_open s
