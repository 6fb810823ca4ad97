-- Zones of a table of rows: for each block of 64 rows the lowest and the highest grade in each column.
-- Assumes nothing.
use Rattle.std.specs.Prelude.{List, [], ℕ, ◌/◌, ◌≤◌, ◌<◌, length, get_or}
use Rattle.zones.specs.Rows.{row_in}
use Rattle.zones.specs.declared.Zone.{Zone}

abbrev pub no_zone : Zone
no_zone = record { lowest = []; highest = [] }

-- zone b
abbrev pub zone_in : List Zone → (b : ℕ) → Zone
zone_in zones b = get_or zones b no_zone

-- a row lies in the zone, in the columns below m
abbrev pub Lies : (zone : Zone) (m : ℕ) (row : List ℕ) → Type 0
Lies zone m row = (j : ℕ) → j < m → (get_or zone.lowest j 0 ≤ get_or row j 0) × (get_or row j 0 ≤ get_or zone.highest j 0)

-- each row lies in the zone of its block
abbrev pub Zoned : (rows : List (List ℕ)) (zones : List Zone) (m : ℕ) → Type 0
Zoned rows zones m = (d : ℕ) → d < length rows → Lies (zone_in zones (d / 64)) m (row_in rows d)

-- no lowest grade is higher than it was, and no highest one lower
pub record Wider (old new : Zone) : Type 0 where
  pub lower : (j : ℕ) → get_or new.lowest j 0 ≤ get_or old.lowest j 0
  pub higher : (j : ℕ) → get_or old.highest j 0 ≤ get_or new.highest j 0
