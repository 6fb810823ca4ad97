-- What writing goes by, after deciding: it stands in private contracts only.
-- Assumes nothing.
use Rattle.std.specs.Prelude.{◌≡◌, List, ℕ}
use Rattle.std.proofs.Math.Option.{some}
use Rattle.semantics.specs.Books.{individuals}
use Rattle.book.specs.Reading.{book_of}
use Rattle.placement.specs.Outcome.{placement, outcome}
use Rattle.decider.specs.Deciding.{placement_in}

-- the buffer holds the placement, where the outcome is 1
abbrev pub HoldsPlacement : (b buffer : List ℕ) → Type 0
HoldsPlacement b buffer = outcome (book_of b) ≡ 1 → placement (book_of b) ≡ some (placement_in buffer (individuals (book_of b)))
