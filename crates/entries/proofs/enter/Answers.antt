-- `entries::enter` meets its contract.
-- Assumes nothing.
use mathlib.Core.Path.{◌≡◌}
use Prim.Native.Nat.{ℕ, ◌+◌, ◌-◌}
use native.Mathlib.Omega.{arith}
use lib.ListN.{length, drop, length-drop}
use lib.Seq.{length-take-le}
use Rattle.types.specs.Candidates.{grade_in}
use Rattle.sections.specs.Terms.{terms_of}
use Rattle.sections.proofs.Terms.{length-terms}
use Rattle.grades.proofs.Rows.{filled_grades}
use Rattle.slots.specs.Slots.{slot_count}
use Rattle.slots.proofs.Rows.{slot_row-same}
use Rattle.entries.specs.Lent.{grading_of}
use Rattle.entries.proofs.Filling.{part-own, part-child, entered_more}
use Rattle.entries.proofs.enter.Goals as goal

pub mark_by_rules-mark-requires : goal.mark_by_rules-mark-requires
mark_by_rules-mark-requires c =
    let g = c.args.theory.now.grader.now in
    λ i h. omega (arith, g.terms_few, c.args.theory.now.rules_right i h, length-terms g.terms.now)

pub put_slot_row-requires : goal.put_slot_row-requires
put_slot_row-requires c =
    let t = c.args.theory.now in
    let g = t.grader.now in
    (omega (arith, t.few_slots), λ q h. omega (arith, t.slots_right q h, g.terms_few, length-terms g.terms.now))

pub returns-clause-entered : goal.returns-clause-entered
returns-clause-entered c =
    let a = c.args in
    let t = a.theory.now in
    let slots = t.slots.now in
    let G = grading_of t in
    let row = c.fill_row.new.row in
    let part = c.put_slot_row.new.part in
    let m : ℕ = slot_count slots in
    let grades = filled_grades G a.c row _ c.fill_row.ensures in
    let shown = slot_row-same slots _ (length (terms_of t.grader.now.terms.now)) (grade_in G a.c) _ t.slots_right grades c.put_slot_row.ensures in
    let size : m + m - m ≡ m = omega arith in
    let mark = c.mark_by_rules-mark in
    λ left E.
    entered_more G t.rules.now t.rules_right slots a.marks.now a.c left a.sources.now a.targets.now E c.enroll.new.self c.enroll-2.new.self row _ _
    grades mark.result c.requires.0 mark.ensures.0 mark.ensures.1
    (length-take-le m part (omega (arith, t.few_slots))) (part-own slots (grade_in G a.c) part shown)
    (rw size (length-take-le m (drop m part) (omega (arith, t.few_slots, length-drop m part)))) (λ q h. rw size (part-child slots (grade_in G a.c) part shown q h))
    c.enroll.ensures.enrolled c.enroll-2.ensures.enrolled
