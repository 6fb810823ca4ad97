-- `placer::place_from` meets its contract: what it finds is what the search finds from those seated.
-- Assumes nothing.
use mathlib.Core.Path.{refl, sym, ◌∙◌}
use mathlib.Core.Bool.{true, false}
use native.Mathlib.Omega.{arith}
use lib.ListN.{drop, length-set}
use Rattle.placer.proofs.Seats.{no_one_left, first_turn, turn_none, turned}
use Rattle.placer.proofs.Walk.{placed_true, placed_false}
use Rattle.placer.proofs.+place_from.Goals as goal

pub returns-then-k-instance-clause-seats_after : goal.returns-then-k-instance-clause-seats_after
returns-then-k-instance-clause-seats_after t c =
    let a = c.args in
    placed_true true _ refl ∙ no_one_left a.instance.now a.table.now a.k a.seats.now (drop a.k a.seats.now) c.if-k-instance.true

pub loop-c-init : goal.loop-c-init
loop-c-init t c =
    let a = c.args in
    let p = c.requires.k_le_individuals in
    first_turn a.instance.now a.table.now a.k a.seats.now (omega (arith, c.if-k-instance.false, p.0)) p.1 p.2

pub returns-then-place_from : goal.returns-then-place_from
returns-then-place_from t c =
    let l = c.loop-c in
    let p = c.place_from in
    let turn = turned l.invariant c.in-Some.ensures p.new.seats (p.auto.seats ∙ length-set l.seats c.args.k c.in-Some.c) p.ensures.seats_unchanged in
    record { seats_unchanged = turn.kept; seats_after = placed_true true _ refl ∙ turn.found (sym (placed_true p.result _ c.if-place_from.true) ∙ p.ensures.seats_after) }

pub loop-c-preserved : goal.loop-c-preserved
loop-c-preserved t c =
    let l = c.loop-c in
    let p = c.place_from in
    let turn = turned l.invariant c.in-Some.ensures p.new.seats (p.auto.seats ∙ length-set l.seats c.args.k c.in-Some.c) p.ensures.seats_unchanged in
    turn.back (sym (placed_false p.result _ c.if-place_from.false) ∙ p.ensures.seats_after)

pub returns-clause-seats_after : goal.returns-clause-seats_after
returns-clause-seats_after t c = placed_false false _ refl ∙ turn_none c.loop-c.invariant c.in_default.ensures
