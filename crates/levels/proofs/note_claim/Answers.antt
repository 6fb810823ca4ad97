-- `levels::note_claim` meets its contract. The claim was noted for the roles below `t`.
-- Assumes nothing.
use mathlib.Core.Path.{ap}
use native.Mathlib.Omega.{arith}
use Rattle.claims.specs.declared.LinkRecord.{LinkRecord}
use Rattle.levels.proofs.Levels.{levels_start, levels_noted, levels_next}
use Rattle.levels.proofs.note_claim.Goals as goal

pub loop-t-init : goal.loop-t-init
loop-t-init c = levels_start _ _ _ _ c.requires.levels_of

pub note_for-requires : goal.note_for-requires
note_for-requires c =
    let e = c.link_claim_at-claim.ensures in
    let r = c.requires.i_bound.1 c.args.i c.requires.i_bound.0 in
    omega (arith, ap (λ (q : LinkRecord). q.source) e, ap (λ (q : LinkRecord). q.target) e, r.1, r.2, c.requires.i_bound.2)

pub loop-t-preserved : goal.loop-t-preserved
loop-t-preserved c =
    let l = c.loop-t in
    levels_noted _ _ c.args.i l.t c.requires.i_bound.0 (omega arith) c.requires.i_bound.1 l.levels l.invariant _ (omega (arith, c.requires.i_bound.2))
    (rw c.link_claim_at-claim.ensures at c.note_for.ensures)

pub returns : goal.returns
returns c = levels_next _ _ _ c.loop-t.t _ (omega arith) c.loop-t.invariant
