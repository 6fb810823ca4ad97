-- `decisions::write_placement` meets its contract.
-- Assumes nothing.
use mathlib.Core.Path.{◌≡◌}
use mathlib.Core.List.{flat_map, ◌++◌}
use Prim.Native.Nat.{◌*◌}
use lib.ListN.{length, take, drop}
use Rattle.encoding.specs.Words.{word_bytes}
use Rattle.decisions.proofs.write_placement.Given as goal

abbrev pub invariant-loop-i : goal.invariant-loop-i
invariant-loop-i l = record {
  same_length : length l.placement ≡ length l.initial.placement;
  written : l.placement ≡ flat_map word_bytes (take l.i l.seats) ++ drop (2 * l.i) l.initial.placement;
}
