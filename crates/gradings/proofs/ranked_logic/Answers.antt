-- `gradings::ranked_logic` meets its contract.
-- Assumes nothing.
use mathlib.Core.Path.{refl}
use Rattle.claims.specs.Pairs.{pairs_of}
use Rattle.gradings.proofs.Gradings.{ranked-grading}
use Rattle.gradings.proofs.ranked_logic.Goals as goal

pub returns : goal.returns
returns c = record { steps_value = refl; ts_value = ranked-grading _ (pairs_of c.args.pairs.now) c.reach-above.ensures }
