-- `zones::Zone::widen` meets its contract. The row lies in the zone in the columns below `j`.
-- Assumes nothing.
use Rattle.zones.specs.Zones.{Lies, Wider}
use Rattle.zones.proofs.Zone.widen.Given as goal

abbrev pub invariant-loop-j : goal.invariant-loop-j
invariant-loop-j l = record { wider : Wider l.initial.self l.self; lies : Lies l.self l.j l.row }
