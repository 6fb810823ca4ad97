-- `zones::make_zones` meets its contract. The rows before `d` lie in the zones of their blocks.
-- Assumes nothing.
use Prim.Native.Nat.{ℕ, ◌/◌, ◌<◌}
use Rattle.zones.specs.Rows.{row_in}
use Rattle.zones.specs.Zones.{zone_in, Lies, Wider}
use Rattle.zones.proofs.make_zones.Given as goal

abbrev pub invariant-loop-d : goal.invariant-loop-d
invariant-loop-d l = record {
  wider : (b : ℕ) → Wider (zone_in l.initial.zones b) (zone_in l.zones b);
  lies : (e : ℕ) → e < l.d → Lies (zone_in l.zones (e / 64)) l.m (row_in l.rows e);
}
