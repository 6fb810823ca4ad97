-- `placer::place_pruned` meets its contract.
-- Assumes nothing.
use mathlib.Core.Path.{◌∙◌}
use native.Mathlib.Nat.{sub-zero}
use Rattle.placer.proofs.Pruning.{vain_finds, pruned-walk}
use Rattle.placer.proofs.place_pruned.Goals as goal

pub returns-then-in_vain : goal.returns-then-in_vain
returns-then-in_vain c =
    let p = c.args.instance.now in
    vain_finds p c.prune.new.table c.args.seats.now (c.in_vain.ensures.0 c.if-in_vain.true) ∙ pruned-walk p c.prune.ensures.pruned

pub returns : goal.returns
returns c = rw (sub-zero) at c.place_from.ensures.seats_after ∙ pruned-walk c.args.instance.now c.prune.ensures.pruned
