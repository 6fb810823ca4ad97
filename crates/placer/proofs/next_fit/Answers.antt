-- `placer::next_fit` meets its contract. None of the candidates passed over fits.
-- Assumes nothing.
use mathlib.Core.Path.{◌≡◌, subst}
use mathlib.Core.Logic.{dite}
use native.Mathlib.Decide.{dec_lt}
use native.Mathlib.Omega.{arith}
use Rattle.placer.specs.Seats.{FitsNextIn}
use Rattle.placer.proofs.next_fit.Goals as goal

pub returns-then-fits_seated : goal.returns-then-fits_seated
returns-then-fits_seated c =
    let l = c.loop-c in record {
      below = c.loop-c-test.true;
      from_start = l.invariant.from_start;
      fits = (c.leap-gap.ensures.0 (omega arith), c.fits_seated.ensures.0 c.if-fits_seated.true);
      none = l.invariant.none;
    }

pub loop-c-preserved : goal.loop-c-preserved
loop-c-preserved c =
    let a = c.args in
    let l = c.loop-c in record {
      from_start = omega (arith, l.invariant.from_start);
      none = λ e x y. dite (dec_lt e l.c) (λ z. l.invariant.none e x z) (λ z m. let q : e ≡ l.c = omega arith in
          c.fits_seated.ensures.1 c.if-fits_seated.false (subst (FitsNextIn a.instance.now a.table.now a.seats.now a.k) q m).1);
    }
