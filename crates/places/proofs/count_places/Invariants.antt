-- `places::count_places` meets its contract. `found` of the terms before `i` open a place.
-- Assumes nothing.
use mathlib.Core.Path.{◌≡◌}
use Prim.Native.Nat.{◌≤◌}
use Rattle.sections.specs.Terms.{terms_of}
use Rattle.places.proofs.Places.{open_before}
use Rattle.places.proofs.count_places.Given as goal

abbrev pub invariant-loop-i : goal.invariant-loop-i
invariant-loop-i l = record { counted : l.found ≡ open_before (terms_of l.terms) l.i; few : l.found ≤ l.i }
