-- `filter::strike_unmet` meets its contract.
-- Assumes nothing.
use mathlib.Core.Path.{ap}
use native.Mathlib.Omega.{arith}
use Rattle.claims.specs.declared.MembershipRecord.{MembershipRecord}
use Rattle.grades.specs.Rows.{entry}
use Rattle.filter.proofs.Filtering.{met_strikes_none, unmet_strikes}
use Rattle.filter.proofs.strike_unmet.Goals as goal

pub bounds-row-from : goal.bounds-row-from
bounds-row-from c = omega (arith, ap (λ (q : MembershipRecord). q.term) c.membership_at-claim.ensures, c.requires.1)

pub returns-then-not-claimed : goal.returns-then-not-claimed
returns-then-not-claimed c =
    let a = c.args in
    unmet_strikes a.memberships.now (entry a.row.now) a.i _ _ c.membership_at-claim.ensures c.from.ensures
    (c.claimed.ensures.1 c.if-not-claimed.true) c.strike.ensures

pub returns-else-not-claimed : goal.returns-else-not-claimed
returns-else-not-claimed c =
    let a = c.args in
    λ j l. met_strikes_none a.memberships.now (entry a.row.now) a.i _ _ c.membership_at-claim.ensures c.from.ensures
    (c.claimed.ensures.0 c.if-not-claimed.false) j _
