-- `witness_search::Search::leap` meets its contract.
-- Assumes nothing.
use native.Mathlib.Omega.{arith}
use Rattle.slots.specs.Slots.{slot_count}
use Rattle.witness_boxes.proofs.Search.{block_leapt}
use Rattle.witness_search.proofs.Search.leap.Goals as goal

pub returns-then-hopeless : goal.returns-then-hopeless
returns-then-hopeless c =
    let S = c.args.self.now in
    let R = S.tables.now.ready in (
      block_leapt S.boxes.now (slot_count S.tables.now.slots.now) S.tables.now.logic.steps S.slot S.tables.now.child.now S.tables.now.zones.now c.args.d
          (omega (arith, c.if-d-eq0.true)) R.zoned (λ e h. R.child_le e S.slot h S.in_slots) (c.hopeless.ensures c.if-hopeless.true),
      omega arith,
    )
