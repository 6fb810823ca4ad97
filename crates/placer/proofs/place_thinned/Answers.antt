-- `placer::place_thinned` meets its contract.
-- Assumes nothing.
use mathlib.Core.Path.{refl, sym, ◌∙◌}
use mathlib.Core.Bool.{true}
use native.Mathlib.Omega.{arith}
use Rattle.placer.proofs.Pruning.{vain_finds, thinned_walk, thinned_domains}
use Rattle.placer.proofs.Walk.{placed_true}
use Rattle.placer.proofs.place_thinned.Goals as goal

pub returns-then-in_vain : goal.returns-then-in_vain
returns-then-in_vain c = vain_finds c.args.instance.now c.args.table.now c.args.seats.now (c.in_vain.ensures.0 c.if-in_vain.true)

pub place_at_once-requires-clause-domains : goal.place_at_once-requires-clause-domains
place_at_once-requires-clause-domains c =
    let g = c.note_all_gaps in
    thinned_domains c.args.instance.now c.thin.ensures g.new.table g.ensures.same_allowed (omega arith) g.ensures.gaps c.requires.graded

pub place_pruned-requires-clause-domains : goal.place_pruned-requires-clause-domains
place_pruned-requires-clause-domains c =
    let g = c.note_all_gaps in
    thinned_domains c.args.instance.now c.thin.ensures g.new.table g.ensures.same_allowed (omega arith) g.ensures.gaps c.requires.graded

pub returns-then-place_at_once : goal.returns-then-place_at_once
returns-then-place_at_once c =
    let g = c.note_all_gaps in
    let o = c.place_at_once in
    placed_true o.result _ c.if-place_at_once.true
    ∙ (sym (placed_true true _ refl) ∙ o.ensures c.if-place_at_once.true ∙ thinned_walk c.args.instance.now c.thin.ensures g.new.table g.ensures.same_allowed)

pub returns-else-place_at_once : goal.returns-else-place_at_once
returns-else-place_at_once c =
    let g = c.note_all_gaps in
    c.place_pruned.ensures ∙ thinned_walk c.args.instance.now c.thin.ensures g.new.table g.ensures.same_allowed
