-- From a book's bytes to the abstract book that they stand for.
-- Assumes nothing.
use Rattle.std.specs.Prelude.{List, ℕ}
use Rattle.semantics.specs.Interpretations.{graded}
use Rattle.semantics.specs.Books.{Book, name_count, role_count, individuals}
use Rattle.sections.specs.Terms.{terms_of}
use Rattle.claims.specs.Pairs.{pairs_of}
use Rattle.claims.specs.Books.{book_of_sections}
use Rattle.layout.specs.Layout.{sections_of, term_bytes, rule_bytes, membership_bytes, link_bytes, pair_bytes}
use Rattle.layout.specs.declared.Sections.{Sections}
use Rattle.book.specs.declared.Counts.{Counts}

-- the book whose sections stand in b at s
abbrev pub book_at : List ℕ → Sections → Book
book_at b s =
    book_of_sections (graded s.steps (terms_of (term_bytes b s)) (pairs_of (pair_bytes b s))) (rule_bytes b s) (pair_bytes b s) (membership_bytes b s)
    (link_bytes b s)

unfoldable pub book_of : List ℕ → Book
book_of b = book_at b (sections_of b)

-- A, R and I: "how many names, roles and individuals"
abbrev pub counts_of : Book → Counts
counts_of B = record { names = name_count B; roles = role_count B; individuals = individuals B }
