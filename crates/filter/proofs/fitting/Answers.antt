-- `filter::fitting` meets its contract. The claims below `i` have struck those that they mention, where they are not met.
-- Assumes nothing.
use native.Mathlib.Omega.{arith}
use borrow.Author.Count.{below_none}
use Rattle.filter.proofs.Filtering.{all_left, fits_more}
use Rattle.filter.proofs.fitting.Goals as goal

pub loop-i-init : goal.loop-i-init
loop-i-init c = λ j l. (λ _. below_none _, λ _. all_left j l)

pub strike_unmet-requires : goal.strike_unmet-requires
strike_unmet-requires c = (omega arith, c.requires c.loop-i.i (omega arith))

pub loop-i-preserved : goal.loop-i-preserved
loop-i-preserved c = λ j h. fits_more c.loop-i.i (c.loop-i.invariant j h) (c.strike_unmet.ensures j h)

pub returns : goal.returns
returns c = λ j h. (λ e x k. (c.loop-i.invariant j h).0 e x (omega arith), λ f. (c.loop-i.invariant j h).1 (λ x k. f x (omega arith)))
