-- `heads::count_pairs` meets its contract.
-- Assumes nothing.
use mathlib.Core.Path.{sym, ◌∙◌}
use native.Mathlib.Omega.{arith}
use Rattle.heads.proofs.Editions.{edition_second, edition_other, head_second}
use Rattle.heads.proofs.count_pairs.Goals as goal

pub word-requires : goal.word-requires
word-requires c = omega (arith, head_second _ c.if-b-eq2.true)

pub returns-then-b-eq2-clause-value : goal.returns-then-b-eq2-clause-value
returns-then-b-eq2-clause-value c = c.word.ensures.0 ∙ sym (edition_second _ _ _ c.if-b-eq2.true)

pub returns-else-b-eq2-clause-value : goal.returns-else-b-eq2-clause-value
returns-else-b-eq2-clause-value c = sym (edition_other _ _ _ c.if-b-eq2.false)
