-- `places::find_homes` meets its contract. The names of the terms before `i` are noted, and their homes filled in.
-- Assumes nothing.
use mathlib.Core.Path.{◌≡◌}
use Prim.Native.Nat.{ℕ, ◌<◌}
use lib.ListN.{length, get_or}
use Rattle.types.specs.Candidates.{home}
use Rattle.sections.specs.Terms.{terms_of}
use Rattle.places.specs.Homes.{Noted}
use Rattle.places.proofs.find_homes.Given as goal

abbrev pub invariant-loop-i : goal.invariant-loop-i
invariant-loop-i l = record {
  long : length l.homes ≡ 64;
  noted : Noted (terms_of l.terms) l.i l.firsts;
  filled : (j : ℕ) → j < l.i → get_or l.homes j 0 ≡ home (terms_of l.terms) j;
}
