-- `placer::fits_seated` meets its contract. The individuals below `i` are compatible.
-- Assumes nothing.
use Prim.Native.Nat.{ℕ, ◌<◌}
use lib.ListN.{get_or}
use Rattle.levels.specs.Rows.{row_at}
use Rattle.supports.specs.Arcs.{FitsIn}
use Rattle.placer.proofs.fits_seated.Given as goal

abbrev pub invariant-loop-i : goal.invariant-loop-i
invariant-loop-i l = (x : ℕ) → x < l.i → FitsIn l.instance x l.k (row_at l.instance.rows.now (get_or l.seats x 0)) (row_at l.instance.rows.now l.c)
