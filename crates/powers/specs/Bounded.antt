-- A number of candidates, exact up to the limit.
-- Assumes nothing.
use Rattle.std.proofs.Math.Logic.{ite}
use Rattle.std.specs.Prelude.{ℕ, Option, Some, None}
use Rattle.std.proofs.Math.Decide.{dec_le}

-- document 01, check 10: "Are there at most 16,384 candidates?"; document 02, P3: "the exact power up to 16,384, and above that only "more""
unfoldable pub bounded : ℕ → Option ℕ
bounded m = ite (dec_le m 16384) (Some m) None
