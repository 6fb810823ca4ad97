-- `eliminator::mark_survivors` meets its contract.
-- Assumes nothing.
use mathlib.Core.Path.{refl, sym, subst, ◌∙◌}
use Prim.Native.Nat.{ℕ}
use native.Mathlib.Omega.{arith}
use lib.ListN.{length}
use lib.Seq.{length-take-le}
use Rattle.sections.proofs.Terms.{terms-ordered}
use Rattle.entries.specs.Filling.{Entered}
use Rattle.entries.specs.Lent.{grading_of, rules_in}
use Rattle.eliminator.proofs.Ends.{classified_used, ready_of, settled_survivors}
use Rattle.eliminator.proofs.mark_survivors.Goals as goal

pub invariant_of-tables : goal.invariant_of-tables
invariant_of-tables c =
    let t = c.args.theory.now in
    let w = c.requires.task in
    let v = c.enter_all-left in
    let S = v.new.sources in
    let T = v.new.targets in
    let E = v.ensures in
    let targets = length-take-le T.count T.rows T.few in record {
      ready = ready_of t.grader.now.logic c.make_zones.new.zones (terms-ordered t.grader.now.terms.now w.terms_right) w.slots_are E
          (classified_used _ _ S.rows S.class _ S.count E.sources) (classified_used _ _ T.rows T.class _ T.count E.targets)
          (length-take-le S.count S.rows S.few) targets w.few_steps w.few_slots w.few
          (omega (arith, targets, c.make_zones.auto.zones, E.targets.few, w.few, c.requires.room.2)) c.make_zones.ensures.zoned;
    }

pub returns : goal.returns
returns c =
    let a = c.args in
    let t = a.theory.now in
    let w = c.requires.task in
    let v = c.enter_all-left in
    let S = v.new.sources in
    let T = v.new.targets in
    let z = c.settle in
    let long = v.auto.marks in
    let E : Entered (grading_of t) (rules_in t) t.slots.now S T v.new.marks (length v.new.marks) v.result =
    subst (λ (n : ℕ). Entered (grading_of t) (rules_in t) t.slots.now S T v.new.marks n v.result) (sym long) v.ensures in
    rw (← long) (settled_survivors t.grader.now.logic c.make_zones.new.zones (terms-ordered t.grader.now.terms.now w.terms_right) w.slots_are E
    (classified_used _ _ S.rows S.class _ S.count E.sources) (classified_used _ _ T.rows T.class _ T.count E.targets)
    (length-take-le S.count S.rows S.few) (length-take-le T.count T.rows T.few) (long ∙ w.counted) z.new.marks z.result refl z.auto.marks z.ensures)
