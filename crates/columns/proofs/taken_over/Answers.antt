-- `columns::taken_over` meets its contract. `found` is what is taken over the elements so far.
-- Assumes nothing.
use mathlib.Core.Path.{ap, ap₂, ◌∙◌}
use native.Mathlib.Omega.{arith}
use lib.ListN.{length}
use borrow.Author.Rules.{rules}
use Rattle.std.proofs.lemmas.List.{length_push}
use Rattle.std.proofs.lemmas.Slice.Zip.{zip_turn, zip_end}
use Rattle.chain.specs.Connectives.{join, through}
use Rattle.chain.proofs.Connectives.{over_none, over-more}
use Rattle.gradings.specs.Gradings.{connectives_of}
use Rattle.sections.specs.Values.{as_quantifier}
use Rattle.columns.specs.Workable.{taken_over}
use Rattle.columns.proofs.taken_over.Goals as goal

pub loop-link-init : goal.loop-link-init
loop-link-init c = c.neutral-found.ensures ∙ over_none (as_quantifier c.args.quantifier) c.args.logic.steps _

pub through-requires : goal.through-requires
through-requires c =
    let row = c.args.row.now in
    let t =
    zip_turn row c.args.column.now c.loop-link.yielded c.into_iter-link-iterator.result c.loop-link.link-iterator c.next.new.self _
    (search rules) (search rules) c.loop-link.yielded_by (c.in-Some.link, c.in-Some.child) c.in-Some.is c.next.ensures.steps in
    rw (t.2 0) (c.requires.by_index _ t.0)

pub loop-link-preserved : goal.loop-link-preserved
loop-link-preserved c =
    let row = c.args.row.now in
    let t =
    zip_turn row c.args.column.now c.loop-link.yielded c.into_iter-link-iterator.result c.loop-link.link-iterator c.next.new.self _
    (search rules) (search rules) c.loop-link.yielded_by (c.in-Some.link, c.in-Some.child) c.in-Some.is c.next.ensures.steps in
    let q = as_quantifier c.args.quantifier in
    let n = length_push c.loop-link.yielded (c.in-Some.link, c.in-Some.child) in
    let taken = c.through.ensures ∙ ap₂ (through (connectives_of c.args.logic) q) (t.2 0) (t.3 0) in
    rw n (c.join-found.ensures ∙ ap₂ (join q) c.loop-link.invariant taken ∙ over-more q c.args.logic.steps _ (length c.loop-link.yielded))

pub returns : goal.returns
returns c =
    let row = c.args.row.now in
    let e =
    zip_end row c.args.column.now c.loop-link.yielded c.into_iter-link-iterator.result c.loop-link.link-iterator c.next.new.self _
    (search rules) (search rules) c.loop-link.yielded_by c.in-None.is c.next.ensures.steps in
    c.loop-link.invariant ∙ ap (taken_over (as_quantifier c.args.quantifier) c.args.logic row c.args.column.now) (omega (arith, e))
