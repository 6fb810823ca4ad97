-- `book::check_bodies` meets its contract. Each return follows from the checks made so far, by the laws of opening.
-- Assumes nothing.
use mathlib.Core.Path.{sym}
use Rattle.book.proofs.Opening.{body_6, body_7, body_8, body_9, body_22, body_none}
use Rattle.chain.proofs.Decisions.{told_yes, told_no}
use Rattle.book.proofs.check_bodies.Goals as goal

pub returns-then-not-terms_right : goal.returns-then-not-terms_right
returns-then-not-terms_right c =
    sym (body_6 c.args.b.now c.args.s
    (rw (← c.terms_in.ensures) (told_no _ c.terms_right.ensures c.if-not-terms_right.true)))

pub returns-then-not-rules_right : goal.returns-then-not-rules_right
returns-then-not-rules_right c =
    let count-terms = c.count_terms-count in
    sym (body_7 c.args.b.now c.args.s
    (rw (← c.terms_in.ensures) (told_yes _ c.terms_right.ensures c.if-not-terms_right.false))
    (rw (← c.rules_in.ensures, ← count-terms.ensures) (told_no _ c.rules_right.ensures c.if-not-rules_right.true)))

pub returns-then-not-memberships_right : goal.returns-then-not-memberships_right
returns-then-not-memberships_right c =
    let count-terms = c.count_terms-count in
    sym (body_8 c.args.b.now c.args.s
    (rw (← c.terms_in.ensures) (told_yes _ c.terms_right.ensures c.if-not-terms_right.false))
    (rw (← c.rules_in.ensures, ← count-terms.ensures) (told_yes _ c.rules_right.ensures c.if-not-rules_right.false))
    (rw (← c.memberships_in.ensures, ← count-terms.ensures) (told_no _ c.memberships_right.ensures c.if-not-memberships_right.true)))

pub returns-then-not-links_right : goal.returns-then-not-links_right
returns-then-not-links_right c =
    let count-terms = c.count_terms-count in
    sym (body_9 c.args.b.now c.args.s
    (rw (← c.terms_in.ensures) (told_yes _ c.terms_right.ensures c.if-not-terms_right.false))
    (rw (← c.rules_in.ensures, ← count-terms.ensures) (told_yes _ c.rules_right.ensures c.if-not-rules_right.false))
    (rw (← c.memberships_in.ensures, ← count-terms.ensures) (told_yes _ c.memberships_right.ensures c.if-not-memberships_right.false))
    (rw (← c.links_in.ensures) (told_no _ c.links_right.ensures c.if-not-links_right.true)))

pub returns-then-not-pairs_right : goal.returns-then-not-pairs_right
returns-then-not-pairs_right c =
    let count-terms = c.count_terms-count in
    sym (body_22 c.args.b.now c.args.s
    (rw (← c.terms_in.ensures) (told_yes _ c.terms_right.ensures c.if-not-terms_right.false))
    (rw (← c.rules_in.ensures, ← count-terms.ensures) (told_yes _ c.rules_right.ensures c.if-not-rules_right.false))
    (rw (← c.memberships_in.ensures, ← count-terms.ensures) (told_yes _ c.memberships_right.ensures c.if-not-memberships_right.false))
    (rw (← c.links_in.ensures) (told_yes _ c.links_right.ensures c.if-not-links_right.false))
    (rw (← c.pairs_in.ensures) (told_no _ c.pairs_right.ensures c.if-not-pairs_right.true)))

pub returns : goal.returns
returns c =
    let count-terms = c.count_terms-count in
    sym (body_none c.args.b.now c.args.s
    (rw (← c.terms_in.ensures) (told_yes _ c.terms_right.ensures c.if-not-terms_right.false))
    (rw (← c.rules_in.ensures, ← count-terms.ensures) (told_yes _ c.rules_right.ensures c.if-not-rules_right.false))
    (rw (← c.memberships_in.ensures, ← count-terms.ensures) (told_yes _ c.memberships_right.ensures c.if-not-memberships_right.false))
    (rw (← c.links_in.ensures) (told_yes _ c.links_right.ensures c.if-not-links_right.false))
    (rw (← c.pairs_in.ensures) (told_yes _ c.pairs_right.ensures c.if-not-pairs_right.false)))
