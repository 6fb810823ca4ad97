-- `written::read_placement` meets its contract. Before individual `j` those before it have been read.
-- Assumes nothing.
use mathlib.Core.Path.{◌≡◌}
use Prim.Native.Nat.{ℕ, ◌<◌, ◌*◌}
use lib.ListN.{length, get_or}
use Rattle.encoding.specs.Words.{word_at}
use Rattle.written.proofs.read_placement.Given as goal

abbrev pub invariant-loop-j : goal.invariant-loop-j
invariant-loop-j l = record {
  same_length : length l.seats ≡ length l.initial.seats;
  read : (i : ℕ) → i < l.j → get_or l.seats i 0 ≡ word_at l.placement (2 * i);
}
