-- `book::open` meets its contract, by the laws of opening.
-- Assumes nothing.
use mathlib.Core.Path.{sym, ap, ◌∙◌}
use Rattle.std.specs.Prelude.{Ok}
use Rattle.refusals.proofs.Answers.{handed_on}
use Rattle.book.proofs.Opening.{opened_no, opened_none}
use Rattle.book.proofs.open.Goals as goal

pub returns-in_err-sections : goal.returns-in_err-sections
returns-in_err-sections c =
    let w = opened_no _ _ c.in_err-sections.ensures in
    rw (handed_on c.from_residual.result c.from_residual.ensures.1) (record { value = w.0; refused = w.1 })

pub check_bodies-requires : goal.check_bodies-requires
check_bodies-requires c = c.in_ok-sections.ensures.1

pub returns-in_err-check_bodies : goal.returns-in_err-check_bodies
returns-in_err-check_bodies c =
    let w = opened_no _ _ (c.in_ok-sections.ensures.2 ∙ sym c.in_err-check_bodies.ensures) in
    rw (handed_on c.from_residual-in_err-check_bodies.result c.from_residual-in_err-check_bodies.ensures.1) (record { value = w.0; refused = w.1 })

pub invariant_of-result : goal.invariant_of-result
invariant_of-result c =
    record { opened = opened_none _ (c.in_ok-sections.ensures.2 ∙ sym c.in_ok-check_bodies.ensures) ∙ ap Ok (sym c.in_ok-sections.ensures.0) }

pub returns-clause-refused : goal.returns-clause-refused
returns-clause-refused c = c.in_ok-check_bodies.ensures ∙ sym c.in_ok-sections.ensures.2
