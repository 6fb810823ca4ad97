-- `decisions::seat` meets its contract.
-- Assumes nothing.
use mathlib.Core.Path.{◌∙◌}
use Rattle.counter.proofs.Counting.{counted_small}
use Rattle.decisions.proofs.Placing.{placing, placing_is}
use Rattle.decisions.proofs.seat.Goals as goal

pub place-requires : goal.place-requires
place-requires c =
    let k = c.args.marked.counted in
    record {
      task = placing k.book.bytes.now k.book.sections c.args.logic c.args.slots.now c.requires.equipped _ _ _ c.terms.ensures c.memberships.ensures
          c.links.ensures c.args.marked.marks.now k.count c.args.individuals (counted_small _ _ k.counted) c.args.marked.marks_long
          c.requires.individuals_value.0;
      individuals_in_bounds = c.requires.individuals_value.1;
    }

pub returns : goal.returns
returns c =
    let k = c.args.marked.counted in
    c.place.ensures ∙ placing_is k.book.bytes.now k.book.sections c.args.logic c.args.slots.now c.requires.equipped _ _ _
    c.terms.ensures c.memberships.ensures c.links.ensures _ c.args.marked.listed
