-- `book::Book::logic` meets its contract.
-- Assumes nothing.
use mathlib.Core.Path.{◌≡◌, ap, ◌∙◌}
use Rattle.book.specs.Reading.{book_of}
use Rattle.book.proofs.Reading.{right-book}
use Rattle.book.proofs.Opening.{right-steps, opened_accepted}
use Rattle.layout.specs.Layout.{term_bytes}
use Rattle.gradings.specs.Gradings.{grading}
use Rattle.sections.specs.Terms.{terms_of}
use Rattle.semantics.specs.Books.{Book}
use Rattle.book.proofs.Book.logic.Goals as goal

pub ranked_logic-requires : goal.ranked_logic-requires
ranked_logic-requires c = rw c.pairs.ensures (opened_accepted _ _ c.args.self.opened).pairs_right

pub returns : goal.returns
returns c =
    let b = c.args.self.bytes.now in
    let s = c.args.self.sections in
    let ok = opened_accepted b s c.args.self.opened in
    let ts = terms_of (term_bytes b s) in
    let g : grading c.ranked_logic.result ts ≡ (book_of b).grading =
    c.ranked_logic.ensures.ts_value ts ∙ rw c.pairs.ensures (ap (λ (B : Book). B.grading) (right-book b s ok)) in
    record { s_value = g; le_steps = rw c.ranked_logic.ensures.steps_value (right-steps b s ok) }
