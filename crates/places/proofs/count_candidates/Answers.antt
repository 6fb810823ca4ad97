-- `places::count_candidates` meets its contract.
-- Assumes nothing.
use mathlib.Core.Path.{ap, ◌∙◌}
use Prim.Native.Nat.{ℕ, ◌+◌, ◌^◌}
use Rattle.powers.specs.Bounded.{bounded}
use Rattle.places.proofs.Places.{candidates_power}
use Rattle.places.proofs.count_candidates.Goals as goal

pub returns : goal.returns
returns c =
    let a = c.args in
    c.bounded_power.ensures ∙ ap bounded (ap (λ (k : ℕ). (a.steps + 1) ^ k) c.count_places.ensures ∙ candidates_power a.steps _)
