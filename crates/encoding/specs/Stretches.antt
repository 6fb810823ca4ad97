-- A stretch of bytes: "Each section is handed on as the stretch its entry names."
-- Assumes nothing.
use Rattle.std.specs.Prelude.{List, ℕ, ◌-◌, take, drop}

abbrev pub stretch : List ℕ → (from to : ℕ) → List ℕ
stretch b from to = take (to - from) (drop from b)
