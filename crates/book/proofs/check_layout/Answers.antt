-- `book::check_layout` meets its contract. Each return follows from the checks made so far, by the laws of opening.
-- Assumes nothing.
use mathlib.Core.Path.{refl}
use Rattle.chain.proofs.Decisions.{told_yes, told_no}
use Rattle.heads.proofs.Editions.{long_headed}
use Rattle.layout.specs.Layout.{sections_of, LaidOut}
use Rattle.book.proofs.Opening.{head_1, head_2, head_3, head_4, head_5, head-none, sections_ordered}
use Rattle.book.proofs.check_layout.Goals as goal

pub returns-then-not-length_right : goal.returns-then-not-length_right
returns-then-not-length_right c = head_1 _ (told_no _ c.length_right.ensures c.if-not-length_right.true)

pub edition_right-requires : goal.edition_right-requires
edition_right-requires c = long_headed c.args.b.now (told_yes _ c.length_right.ensures c.if-not-length_right.false).0

pub returns-then-not-edition_right : goal.returns-then-not-edition_right
returns-then-not-edition_right c =
    head_2 _ (told_yes _ c.length_right.ensures c.if-not-length_right.false) (told_no _ c.edition_right.ensures c.if-not-edition_right.true)

pub steps_right-requires : goal.steps_right-requires
steps_right-requires c = long_headed c.args.b.now (told_yes _ c.length_right.ensures c.if-not-length_right.false).0

pub returns-then-not-steps_right : goal.returns-then-not-steps_right
returns-then-not-steps_right c =
    head_3 _ (told_yes _ c.length_right.ensures c.if-not-length_right.false) (told_yes _ c.edition_right.ensures c.if-not-edition_right.false)
    (told_no _ c.steps_right.ensures c.if-not-steps_right.true)

pub counts_right-requires : goal.counts_right-requires
counts_right-requires c = long_headed c.args.b.now (told_yes _ c.length_right.ensures c.if-not-length_right.false).0

pub returns-then-not-counts_right : goal.returns-then-not-counts_right
returns-then-not-counts_right c =
    head_4 _ (told_yes _ c.length_right.ensures c.if-not-length_right.false) (told_yes _ c.edition_right.ensures c.if-not-edition_right.false)
    (told_yes _ c.steps_right.ensures c.if-not-steps_right.false) (told_no _ c.counts_right.ensures c.if-not-counts_right.true)

pub sections_of-s-requires : goal.sections_of-s-requires
sections_of-s-requires c = long_headed c.args.b.now (told_yes _ c.length_right.ensures c.if-not-length_right.false).0

pub laid_out-requires : goal.laid_out-requires
laid_out-requires c = long_headed c.args.b.now (told_yes _ c.length_right.ensures c.if-not-length_right.false).0

pub returns-then-not-laid_out : goal.returns-then-not-laid_out
returns-then-not-laid_out c =
    head_5 _ (told_yes _ c.length_right.ensures c.if-not-length_right.false) (told_yes _ c.edition_right.ensures c.if-not-edition_right.false)
    (told_yes _ c.steps_right.ensures c.if-not-steps_right.false) (told_yes _ c.counts_right.ensures c.if-not-counts_right.false)
    (rw (← c.sections_of-s.ensures) (told_no _ c.laid_out.ensures c.if-not-laid_out.true))

pub returns : goal.returns
returns c =
    let s = c.sections_of-s in
    let o : LaidOut c.args.b.now (sections_of c.args.b.now) = rw (← s.ensures) (told_yes _ c.laid_out.ensures c.if-not-laid_out.false) in
    let first = head-none _ (told_yes _ c.length_right.ensures c.if-not-length_right.false) (told_yes _ c.edition_right.ensures c.if-not-edition_right.false)
    (told_yes _ c.steps_right.ensures c.if-not-steps_right.false) (told_yes _ c.counts_right.ensures c.if-not-counts_right.false) o in
    rw s.ensures (refl, sections_ordered _ o, first)
