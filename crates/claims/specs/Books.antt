-- The book that the bytes of its sections stand for, beside the grading of its terms.
-- Assumes nothing.
use Rattle.std.specs.Prelude.{List, ℕ}
use Rattle.semantics.specs.Interpretations.{Grading}
use Rattle.semantics.specs.Books.{Book}
use Rattle.claims.specs.Rules.{rules_of}
use Rattle.claims.specs.Pairs.{pairs_of}
use Rattle.claims.specs.Claims.{memberships_of, links_of}

abbrev pub book_of_sections : Grading → (rules pairs memberships links : List ℕ) → Book
book_of_sections G rs ps ms ls =
    record { grading = G; rules = rules_of rs; pairs = pairs_of ps; memberships = memberships_of ms; links = links_of ls }
