-- `witness_search::Search::hopeless` meets its contract. The boxes for the grades of the zone below `x` are missed.
-- Assumes nothing.
use mathlib.Core.Path.{sym, ◌∙◌}
use Prim.Native.Nat.{◌-◌}
use native.Mathlib.Omega.{arith}
use borrow.Author.Count.{below_more}
use Rattle.slots.specs.Slots.{slot_count}
use Rattle.witness_boxes.proofs.Search.{missed_unreached}
use Rattle.witness_search.proofs.Search.hopeless.Goals as goal

pub loop-x-preserved-then-shared : goal.loop-x-preserved-then-shared
loop-x-preserved-then-shared c =
    let l = c.loop-x in
    let u = c.shared.ensures c.if-shared.true in
    below_more _ l.x l.invariant (λ _ s e. l.invariant (l.x - 1) (omega (arith, u.0)) (omega (arith, u.0)) s (sym u.1 ∙ e))

pub loop-x-preserved : goal.loop-x-preserved
loop-x-preserved c = below_more _ c.loop-x.x c.loop-x.invariant (λ _. c.reached.ensures c.if-reached.false)

pub returns : goal.returns
returns c =
    let S = c.args.self.now in
    λ _ x le.
    missed_unreached S.boxes.now (slot_count S.tables.now.slots.now) c.args.zone.now S.slot x S.in_slots
    (λ f g. c.loop-x.invariant x (omega (arith, c.from-past.ensures, c.min.ensures, c.loop-x-test.false)) (omega (arith, c.from-low.ensures)))
