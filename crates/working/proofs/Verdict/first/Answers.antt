-- `working::Verdict::first` meets its contract. The verdicts before `i` are "meets".
-- Assumes nothing.
use mathlib.Core.Path.{◌≡◌}
use native.Mathlib.Omega.{arith}
use borrow.Author.Count.{below_more}
use borrow.Author.Rules.{rules}
use Rattle.working.specs.declared.Verdict.TheVariants.{Meets}
use Rattle.working.specs.Working.{Broken}
use Rattle.working.proofs.Working.{first_none, first_found}
use Rattle.working.proofs.Verdict.first.Goals as goal

pub returns-then-ne : goal.returns-then-ne
returns-then-ne g c =
    let b : Broken c.verdict-v.result = search rules in
    λ f same. first_found _ _ f same c.loop-i.i _ (omega arith) c.loop-i.invariant c.verdict-v.ensures b

pub loop-i-preserved : goal.loop-i-preserved
loop-i-preserved g c =
    let e : c.verdict-v.result ≡ Meets = search rules in
    below_more _ _ c.loop-i.invariant (rw (← e) c.verdict-v.ensures)

pub returns : goal.returns
returns g c = λ f same. first_none _ _ f same (λ j l. c.loop-i.invariant j (omega arith))
