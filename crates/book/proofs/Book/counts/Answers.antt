-- `book::Book::counts` meets its contract.
-- Assumes nothing.
use mathlib.Core.Path.{◌≡◌, sym, ◌∙◌}
use native.Mathlib.Omega.{arith}
use Rattle.book.proofs.Reading.{right_counts, right-names, right_roles, right-individuals}
use Rattle.book.proofs.Opening.{opened_accepted}
use Rattle.book.specs.Reading.{book_of}
use Rattle.semantics.specs.Books.{name_count, role_count, individuals}
use Rattle.book.proofs.Book.counts.Goals as goal

pub returns : goal.returns
returns c =
    let b = c.args.self.bytes.now in
    let s = c.args.self.sections in
    let ok = opened_accepted b s c.args.self.opened in
    let k = right_counts b s ok in
    let a : c.count_names.result ≡ name_count (book_of c.args.self.bytes.now) =
    c.count_names.ensures ∙ rw c.terms.ensures (sym k.1) in
    let r : c.count_roles.result ≡ role_count (book_of c.args.self.bytes.now) =
    c.count_roles.ensures ∙ rw (c.terms-2.ensures, c.links-links.ensures, c.pairs-pairs.ensures) (sym k.2) in
    let i : c.count_individuals.result ≡ individuals (book_of c.args.self.bytes.now) =
    c.count_individuals.ensures ∙ rw (c.memberships.ensures, c.links-links.ensures) (sym k.3) in
    record {
      value = cc;
      names_bound = (
        omega (arith, right-names b s ok),
        omega (arith, right_roles b s ok),
        omega (arith, right-individuals b s ok),
      );
    }
