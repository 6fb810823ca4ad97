-- `writer::write_counted` meets its contract.
-- Assumes nothing.
use mathlib.Core.Option.{Option, some}
use mathlib.Core.Path.{sym, ap, ◌∙◌}
use mathlib.Core.List.{List}
use Prim.Native.Nat.{ℕ}
use native.Mathlib.Omega.{arith}
use lib.ListN.{length}
use Rattle.refusals.proofs.Answers.{handed_on}
use Rattle.book.specs.Reading.{book_of}
use Rattle.counter.proofs.Counting.{counted-candidates}
use Rattle.semantics.specs.Books.{individuals}
use Rattle.elimination.specs.Marks.{marked}
use Rattle.decider.specs.Deciding.{decide_questions, placement_in}
use Rattle.decider.proofs.Listed.{decidable_suffices}
use Rattle.marking.proofs.Marking.{marked_in_lem}
use Rattle.decider.proofs.Deciding.{decision-refused, decision_decided, settled}
use Rattle.written.proofs.Writing.{write_refused, written-after_yes, placement_there}
use Rattle.writer.proofs.write_counted.Goals as goal

pub returns-in_err-answer : goal.returns-in_err-answer
returns-in_err-answer c =
    let k = c.args.counted in
    let decide = c.decide_counted in
    let e = handed_on c.from_residual.result c.from_residual.ensures.1 in
    let u = write_refused k.book.bytes.now (length c.args.marks.now) (length c.args.placement.now) c.args.sheet.now _
    (decision-refused _ _ _ (sym c.in_err-answer.ensures.value)) in
    record { value = e ∙ u.0; marks_after = decide.ensures.marks_after; placement_after = decide.ensures.placement_after; sheet_after = u.1 }

pub invariant_of-marked : goal.invariant_of-marked
invariant_of-marked c =
    let k = c.args.counted in
    let b = k.book.bytes.now in
    let m = length c.args.marks.now in
    let p = length c.args.placement.now in
    let decide = c.decide_counted in
    let q = decision_decided _ _ _ (sym c.in_ok-answer.ensures.value) in
    let e = counted-candidates _ _ k.count k.counted in
    let u = settled (book_of b) (decide_questions b m p) c.args.marks.now c.args.placement.now q.0 in
    record {
      marks_long = omega (arith, decide.auto, e.1, (decidable_suffices b m p q.0).marks_suffice);
      listed = ap (λ (l : List ℕ). marked l k.count) (decide.ensures.marks_after ∙ sym u.1.0) ∙ marked_in_lem (book_of b) k.count e.1 c.args.marks.now;
    }

pub invariant_of-write_decided : goal.invariant_of-write_decided
invariant_of-write_decided c =
    let b = c.args.counted.book.bytes.now in
    let decide = c.decide_counted in
    let q = decision_decided _ _ _ (sym c.in_ok-answer.ensures.value) in
    record {
      placement_long = omega
          (arith, decide.auto, (decidable_suffices b (length c.args.marks.now) (length c.args.placement.now) q.0).placement_suffices);
      placed = λ h. placement_there b c.args.marks.now c.args.placement.now q.0 h
          ∙ ap {B = Option (List ℕ)} (λ (l : List ℕ). some (placement_in l (individuals (book_of b)))) (sym decide.ensures.placement_after);
      answered = sym q.1;
    }

pub returns : goal.returns
returns c =
    let decide = c.decide_counted in
    let write = c.write_decided in
    let q = decision_decided _ _ _ (sym c.in_ok-answer.ensures.value) in
    let u = written-after_yes _ _ _ c.args.sheet.now q.0 in
    record {
      value = write.ensures.value ∙ u.0;
      marks_after = decide.ensures.marks_after;
      placement_after = decide.ensures.placement_after;
      sheet_after = write.ensures.sheet_after ∙ u.1;
    }
