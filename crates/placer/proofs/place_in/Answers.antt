-- `placer::place_in` meets its contract.
-- Assumes nothing.
use mathlib.Core.Path.{refl}
use native.Mathlib.Omega.{arith}
use Rattle.slots.proofs.Slots.{slot_role_lem}
use Rattle.placer.proofs.Prepared.{prepared, problem}
use Rattle.placer.proofs.Placing.{filtered_graded, found-placement}
use Rattle.placer.proofs.place_in.Goals as goal

pub connect-requires-clause-slots_bound : goal.connect-requires-clause-slots_bound
connect-requires-clause-slots_bound c =
    let t = c.requires.task in
    (t.few_slots, slot_role_lem c.args.terms.now t.terms_right c.args.slots.now t.slots_are)

pub invariant_of-network : goal.invariant_of-network
invariant_of-network c = record { wired = (problem (prepared c.requires.task c.connect.ensures) c.args.rows.now (omega arith) (omega arith)).wired }

pub invariant_of-filter : goal.invariant_of-filter
invariant_of-filter c = record {
  logic_is = c.new.ensures.logic_is;
  columns_are = refl;
  few = (problem (prepared c.requires.task c.connect.ensures) c.args.rows.now (omega arith) (omega arith)).individuals_few;
}

pub place_thinned-requires-clause-graded : goal.place_thinned-requires-clause-graded
place_thinned-requires-clause-graded c =
    filtered_graded (prepared c.requires.task c.connect.ensures) c.fill_tables.new.rows _ (rw c.new.ensures.terms_are at c.fill_tables.ensures)

pub returns : goal.returns
returns c =
    found-placement (prepared c.requires.task c.connect.ensures) c.fill_tables.new.rows _ (rw c.new.ensures.terms_are at c.fill_tables.ensures)
    c.place_thinned.result _ c.place_thinned.ensures
