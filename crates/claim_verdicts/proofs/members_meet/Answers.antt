-- `claim_verdicts::members_meet` meets its contract. It asks of the individuals between two bounds, and the claim mentions no others.
-- Assumes nothing.
use mathlib.Core.Path.{refl}
use Prim.Native.Nat.{ℕ}
use native.Mathlib.Omega.{arith}
use borrow.Author.Rules.{rules}
use Rattle.std.proofs.lemmas.Iterator.{cases_from_all, YieldsList-from_range}
use Rattle.claims.specs.Claims.{membership_of}
use Rattle.columns.specs.Columns.{cell_at}
use Rattle.cells.specs.Cells.{element_in}
use Rattle.claim_verdicts.specs.Covered.{MeetsIfMentioned}
use Rattle.claim_verdicts.proofs.Judging.{range_told, members_met, members_unmet}
use Rattle.claim_verdicts.proofs.members_meet.Goals as goal

pub returns : goal.returns
returns c =
    let grade = cell_at c.args.columns.now in
    let element = element_in c.args.frame.now.individuals.now in
    let q = membership_of c.args.claim in
    let Meets : ℕ → Type 0 = λ j. MeetsIfMentioned grade element q j in
    let from = c.mentioned_from.result in
    let end = c.mentioned.result in
    let told =
    range_told Meets from end c.all.result
    (cases_from_all _ _ _ Meets (λ j. ¬ Meets j) c.all.ensures.ran (YieldsList-from_range from end _ refl refl)
    (λ x p k. search rules) (λ x p k. search rules)) in (
      λ t. members_met grade element q end (omega arith) (λ j l m. told.0 t j (c.mentioned_from.ensures j m) l m),
      λ f. let w = told.1 f in members_unmet grade element q w.0 w.1,
    )
