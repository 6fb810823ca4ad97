-- `working::Verdict::first` meets its contract. The verdicts before `i` are "meets".
-- Assumes nothing.
use Prim.Native.Nat.{ℕ, ◌<◌}
use Rattle.working.specs.declared.Verdict.TheVariants.{Meets}
use Rattle.working.proofs.Verdict.first.Given as goal

abbrev pub invariant-loop-i : goal.invariant-loop-i
invariant-loop-i g l = (j : ℕ) → j < l.i → goal.F-post g l.verdict j Meets
