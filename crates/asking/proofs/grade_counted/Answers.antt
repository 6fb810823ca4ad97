-- `asking::grade_counted` meets its contract.
-- Assumes nothing.
use mathlib.Core.Path.{sym}
use native.Mathlib.Omega.{arith}
use Rattle.refusals.specs.declared.Refusal.TheVariants as refusal
use Rattle.book.proofs.Reading.{right-length}
use Rattle.book.proofs.Opening.{opened_accepted}
use Rattle.counter.specs.Counting.{candidate_questions}
use Rattle.counter.proofs.Counting.{counted-candidates, counted_small}
use Rattle.asking.proofs.Asking.{graded-first, graded_second, graded-both, terms_fit}
use Rattle.asking.proofs.grade_counted.Goals as goal

pub returns-then-counted-c : goal.returns-then-counted-c
returns-then-counted-c c =
    let k = c.args.counted in
    let e = counted-candidates _ _ k.count k.counted in
    sym (graded-first _ (candidate_questions k.book.bytes.now) refusal.Candidate refusal.TermOrRole _ _ e.0 (λ h. omega arith))

pub returns-then-count_terms-i : goal.returns-then-count_terms-i
returns-then-count_terms-i c =
    let k = c.args.counted in
    let e = counted-candidates _ _ k.count k.counted in
    let l = right-length _ _ (opened_accepted _ _ k.book.opened) in
    sym (graded_second _ (candidate_questions k.book.bytes.now) refusal.Candidate refusal.TermOrRole _ _ e.0 (omega arith) (λ h. omega arith))

pub new-requires : goal.new-requires
new-requires c =
    let h = terms_fit _ _ (opened_accepted _ _ c.args.counted.book.opened) _ c.terms.ensures in
    record { terms_right = h.0; terms_few = omega arith }

pub grade_of-requires : goal.grade_of-requires
grade_of-requires c =
    let k = c.args.counted in
    let h = terms_fit _ _ (opened_accepted _ _ k.book.opened) _ c.terms.ensures in
    record { c_bound = omega (arith, counted_small _ k.count k.counted); i_bound = rw c.new.ensures.terms_are (omega arith) }

pub returns : goal.returns
returns c =
    let k = c.args.counted in
    let e = counted-candidates _ _ k.count k.counted in
    let l = right-length _ _ (opened_accepted _ _ k.book.opened) in
    rw (c.grade_of.ensures, c.new.ensures.logic_is, c.new.ensures.terms_are, c.terms.ensures, c.logic.ensures.s_value)
    (sym (graded-both _ (candidate_questions k.book.bytes.now) refusal.Candidate refusal.TermOrRole _ _ e.0 (omega arith) (omega arith)))
