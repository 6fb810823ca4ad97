-- `written::write_decided` meets its contract.
-- Assumes nothing.
use mathlib.Core.Path.{◌≡◌, sym, ap, ◌∙◌}
use mathlib.Core.Bool.{true, false, not}
use borrow.Author.Rules.{rules}
use native.Mathlib.Omega.{arith}
use lib.ListN.{length}
use denote.Enum.Bare.{sameb}
use Rattle.refusals.specs.declared.Refusal.TheVariants as refusal
use Rattle.book.specs.Reading.{book_of}
use Rattle.elimination.specs.Survivors.{survivors_of}
use Rattle.placement.specs.Outcome.{outcome}
use Rattle.decisions.specs.contracts.Outcome.{the_type}
use Rattle.decisions.specs.declared.Decision.{Decision}
use Rattle.decisions.specs.declared.Outcome.{Outcome}
use Rattle.decisions.specs.declared.Outcome.TheVariants.{HoldsTogether, ClaimsFail, NoModel}
use Rattle.chain.proofs.Decisions.{never}
use Rattle.decisions.proofs.Decided.{outcome_said, outcome-with}
use Rattle.written.proofs.Writing.{model_17, model_18, written_no}
use Rattle.written.proofs.write_decided.Goals as goal

-- what the test says
test_false : (o : Outcome) → not (sameb the_type o HoldsTogether) ≡ false → o ≡ HoldsTogether
test_false HoldsTogether e = search rules
test_false ClaimsFail e = never e
test_false NoModel e = never e

test_true : (o : Outcome) → not (sameb the_type o HoldsTogether) ≡ true → ¬ (o ≡ HoldsTogether)
test_true o e h = never (sym (rw h at e))

pub returns-then-ne : goal.returns-then-ne
returns-then-ne c =
    let B = book_of c.args.held.marked.counted.book.bytes.now in
    let w = written_no _ _ refusal.Outcome c.args.sheet.now
    (model_17 B (length c.args.sheet.now)
    (λ h. test_true _ (sym c.ne.ensures ∙ c.if-ne.true) (ap (λ (a : Decision). a.outcome) c.args.held.answered ∙ sym (outcome-with HoldsTogether _ (sym h))))) in
    record { value = w.0; sheet_after = w.1 }

pub returns-then-held-gt64 : goal.returns-then-held-gt64
returns-then-held-gt64 c =
    let B = book_of c.args.held.marked.counted.book.bytes.now in
    let n : c.args.held.answer.survivors ≡ length (survivors_of B) = ap (λ (a : Decision). a.survivors) c.args.held.answered in
    let holds : outcome B ≡ 1 =
    outcome_said B HoldsTogether (sym (ap (λ (a : Decision). a.outcome) c.args.held.answered) ∙ test_false _ (sym c.ne.ensures ∙ c.if-ne.false)) in
    let w = written_no _ _ refusal.Survivors c.args.sheet.now
    (model_18 B (length c.args.sheet.now) holds (λ h. omega (arith, c.if-held-gt64.true, n, h))) in
    record { value = w.0; sheet_after = w.1 }
