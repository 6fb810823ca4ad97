-- `arcs::revise_by` meets its contract.
-- Assumes nothing.
use Rattle.supports.proofs.Arcs.{revised_noted, domains_noted}
use Rattle.arcs.proofs.revise_by.Goals as goal

pub returns-clause-revised : goal.returns-clause-revised
returns-clause-revised c =
    let a = c.args in
    let p = c.requires.j_lt_individuals in
    revised_noted a.instance.now a.j a.i p.0 p.1 p.2 c.revise.result a.table.now _ _ c.if-not-revise.false c.revise.ensures.revised_by c.note_gaps.ensures.same

pub returns-clause-domains_2 : goal.returns-clause-domains_2
returns-clause-domains_2 c = domains_noted c.args.instance.now c.args.j _ _ c.note_gaps.auto.table c.revise.ensures.domains_2 c.note_gaps.ensures
