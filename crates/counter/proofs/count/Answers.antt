-- `counter::count` meets its contract.
-- Assumes nothing.
use mathlib.Core.Path.{sym, ap, ◌∙◌}
use Rattle.refusals.proofs.Answers.{handed_on, numbered}
use Rattle.counter.specs.Counting.{counted_of}
use Rattle.counter.proofs.Counting.{counted-refused, counted_refusal}
use Rattle.counter.proofs.count.Goals as goal

pub returns-in_err-open : goal.returns-in_err-open
returns-in_err-open c =
    let e = handed_on c.from_residual.result c.from_residual.ensures.1 in
    let w = numbered (counted_refusal _ _) (e ∙ sym (counted-refused _ _ c.in_err-open.ensures.value)) in
    record { value = w.0; refused = w.1 }

pub returns : goal.returns
returns c =
    let w = numbered (counted_refusal _ _) (c.count_in.ensures ∙ ap counted_of c.in_ok-open.ensures.value.1) in
    record { value = w.0; refused = w.1 }
