-- `counter::count_in` meets its contract.
-- Assumes nothing.
use mathlib.Core.Path.{sym}
use native.Mathlib.Omega.{arith}
use Rattle.powers.proofs.Bounded.{exactly_bounded, more-bounded}
use Rattle.book.proofs.Reading.{right-terms, right-few}
use Rattle.book.proofs.Opening.{opened_accepted}
use Rattle.counter.proofs.Counting.{counted-few, counted_many}
use Rattle.counter.proofs.count_in.Goals as goal

pub count_candidates-requires : goal.count_candidates-requires
count_candidates-requires c =
    let ok = opened_accepted _ _ c.args.book.opened in
    record { terms_right = rw c.terms.ensures ok.terms_right; terms_bound = rw c.terms.ensures (omega (arith, right-terms _ _ ok, right-few _ _ ok)) }

pub returns-in-Some : goal.returns-in-Some
returns-in-Some c =
    let e = exactly_bounded _ _ (sym c.in-Some.ensures) in
    sym (counted-few c.args.book.bytes.now c.args.book.sections c.args.book.opened _ (rw (← c.terms.ensures) e.0) (omega (arith, e)))

pub returns-in-None : goal.returns-in-None
returns-in-None c =
    sym (counted_many c.args.book.bytes.now c.args.book.sections c.args.book.opened (rw (← c.terms.ensures) (more-bounded _ (sym c.in-None.ensures))))
