-- `verdicts::verdict` meets its contract. One section else another, as the definition has them.
-- Assumes nothing.
use mathlib.Core.Path.{ap, ◌∙◌}
use borrow.Author.Rules.{rules}
use Rattle.claims.specs.Rules.{rules_of}
use Rattle.claims.specs.Pairs.{pairs_of}
use Rattle.claims.specs.Claims.{memberships_of, links_of}
use Rattle.working.specs.Working.{verdict_by, or_else, rules_verdict, pairs_verdict, memberships_verdict, links_verdict}
use Rattle.working.specs.declared.Verdict.{Verdict}
use Rattle.working.proofs.Working.{or_else_assoc}
use Rattle.columns.specs.Columns.{cell_at}
use Rattle.cells.specs.Cells.{sheet}
use Rattle.verdicts.specs.Verdicts.{verdict_in}
use Rattle.verdicts.proofs.verdict.Goals as goal

pub returns : goal.returns
unfolding verdict_in verdict_by
returns c =
    let a = c.args in
    let I = sheet a.frame.now.elements a.frame.now.links.now a.frame.now.individuals.now in
    let grade = cell_at a.columns.now in
    let R = rules_verdict grade I.size (rules_of a.rules.now) in
    let P = pairs_verdict I.links I.size (pairs_of a.pairs.now) in
    let M = memberships_verdict grade I.element (memberships_of a.memberships.now) in
    let L = links_verdict I (links_of a.claims.now) in
    c.or_else-3.ensures L (λ v e. search rules)
    ∙ ap (λ (v : Verdict). or_else v L) (c.or_else-2.ensures M (λ v e. search rules)
    ∙ ap (λ (v : Verdict). or_else v M) (c.or_else.ensures P (λ v e. search rules)
    ∙ ap (λ (v : Verdict). or_else v P) c.rules_verdict.ensures))
    ∙ or_else_assoc (or_else R P) M L ∙ or_else_assoc R P (or_else M L)
