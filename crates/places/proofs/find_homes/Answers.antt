-- `places::find_homes` meets its contract. The names of the terms before `i` are noted, and their homes filled in.
-- Assumes nothing.
use mathlib.Core.Path.{refl}
use native.Mathlib.Omega.{arith}
use lib.ListN.{length-set}
use borrow.Author.Count.{below_none}
use Rattle.sections.specs.Terms.{terms_of}
use Rattle.places.proofs.Homes.{none-noted, filled_more}
use Rattle.places.proofs.find_homes.Goals as goal

pub loop-i-init : goal.loop-i-init
loop-i-init c = record { long = refl; noted = none-noted (terms_of c.args.terms.now); filled = below_none _ }

pub loop-i-preserved : goal.loop-i-preserved
loop-i-preserved c =
    let l = c.loop-i in
    let h = c.home_at.ensures in
    record {
      long = simp length-set l.invariant.long;
      noted = h.noted;
      filled = filled_more (terms_of c.args.terms.now) l.homes l.i _ (omega (arith, l.invariant.long, c.requires.terms_bound)) h.value l.invariant.filled;
    }
