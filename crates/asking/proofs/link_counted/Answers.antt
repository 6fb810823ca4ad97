-- `asking::link_counted` meets its contract.
-- Assumes nothing.
use mathlib.Core.Path.{sym}
use native.Mathlib.Omega.{arith}
use Rattle.refusals.specs.declared.Refusal.TheVariants as refusal
use Rattle.book.proofs.Opening.{opened_accepted}
use Rattle.counter.specs.Counting.{candidate_questions}
use Rattle.counter.proofs.Counting.{counted-candidates, counted_small}
use Rattle.asking.proofs.Asking.{graded-first, graded_second, graded-both, terms_fit}
use Rattle.asking.proofs.link_counted.Goals as goal

pub returns-then-counted-c : goal.returns-then-counted-c
returns-then-counted-c c =
    let k = c.args.counted in
    let e = counted-candidates _ _ k.count k.counted in
    sym (graded-first _ (candidate_questions k.book.bytes.now) refusal.Candidate refusal.TermOrRole _ _ e.0 (λ h. omega arith))

pub returns-then-counted-d : goal.returns-then-counted-d
returns-then-counted-d c =
    let k = c.args.counted in
    let e = counted-candidates _ _ k.count k.counted in
    sym (graded-first _ (candidate_questions k.book.bytes.now) refusal.Candidate refusal.TermOrRole _ _ e.0 (λ h. omega arith))

pub returns-then-role-ge8 : goal.returns-then-role-ge8
returns-then-role-ge8 c =
    let k = c.args.counted in
    let e = counted-candidates _ _ k.count k.counted in
    sym (graded_second _ (candidate_questions k.book.bytes.now) refusal.Candidate refusal.TermOrRole _ _ e.0 (omega arith, omega arith) (λ h. omega arith))

pub new-grader-requires : goal.new-grader-requires
new-grader-requires c =
    let h = terms_fit _ _ (opened_accepted _ _ c.args.counted.book.opened) _ c.terms.ensures in
    record { terms_right = h.0; terms_few = omega arith }

pub link_of-requires : goal.link_of-requires
link_of-requires c =
    let few = counted_small _ c.args.counted.count c.args.counted.counted in
    (omega arith, omega arith)

pub returns : goal.returns
returns c =
    let k = c.args.counted in
    let e = counted-candidates _ _ k.count k.counted in
    rw (c.link_of.ensures, c.new-grader.ensures.logic_is, c.new-grader.ensures.terms_are, c.terms.ensures, c.logic.ensures.s_value)
    (sym (graded-both _ (candidate_questions k.book.bytes.now) refusal.Candidate refusal.TermOrRole _ _ e.0 (omega arith, omega arith) (omega arith)))
