-- `slots::put_slot` meets its contract.
-- Assumes nothing.
use mathlib.Core.Path.{◌∙◌}
use native.Mathlib.Omega.{arith}
use Rattle.sections.specs.Values.{as_quantifier}
use Rattle.sections.proofs.Values.{other_value}
use Rattle.slots.proofs.Collecting.{slots_other, read-room, read-more}
use Rattle.slots.proofs.put_slot.Goals as goal

pub write_slot-requires : goal.write_slot-requires
write_slot-requires c =
    let a = c.args in
    let t = c.in-Quantified in
    let p = c.requires.i_bound in
    let room = read-room a.terms.now a.slots.now a.i a.m p.0 c.requires.slots_collected (as_quantifier t.quantifier) t.role t.child t.ensures in
    (omega (arith, room, p.3), p.2)

pub overflow_add-result : goal.overflow_add-result
overflow_add-result c =
    let a = c.args in
    let t = c.in-Quantified in
    let p = c.requires.i_bound in
    omega (arith, p.3, read-room a.terms.now a.slots.now a.i a.m p.0 c.requires.slots_collected (as_quantifier t.quantifier) t.role t.child t.ensures)

pub returns-in-Quantified : goal.returns-in-Quantified
returns-in-Quantified c =
    let a = c.args in
    let t = c.in-Quantified in
    let p = c.requires.i_bound in
    let room = read-room a.terms.now a.slots.now a.i a.m p.0 c.requires.slots_collected (as_quantifier t.quantifier) t.role t.child t.ensures in
    read-more a.terms.now a.slots.now a.i a.m p.0 c.requires.slots_collected (as_quantifier t.quantifier) t.role t.child t.ensures
    _ c.write_slot.ensures (omega (arith, room, p.2, p.3))

pub returns-in_default : goal.returns-in_default
returns-in_default c =
    let a = c.args in
    slots_other a.terms.now a.slots.now a.i a.m c.requires.i_bound.0 c.requires.slots_collected (λ k r x e.
    other_value c.read_term.result c.in_default.not-Quantified k r x (c.read_term.ensures ∙ e))
