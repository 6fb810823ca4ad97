-- `placer::next_fit` meets its contract. None of the candidates passed over fits.
-- Assumes nothing.
use Prim.Native.Nat.{ℕ, ◌≤◌, ◌<◌, ◌-◌}
use Rattle.placer.specs.Seats.{FitsNextIn}
use Rattle.placer.proofs.next_fit.Given as goal

abbrev pub invariant-loop-c : goal.invariant-loop-c
invariant-loop-c l = record {
  from_start : l.start ≤ l.c;
  none : (e : ℕ) → l.start ≤ e → e < l.c → ¬ FitsNextIn l.instance l.table l.seats l.k e;
}

abbrev pub decreases-loop-c : goal.decreases-loop-c
decreases-loop-c l = l.instance.count - l.c
