-- What code takes the bytes of a membership claim for: whom it is about, and its sense.
-- Assumes nothing.
use Rattle.std.specs.Prelude.{List, [], ◌∷◌, ℕ}
use Rattle.encoding.specs.Bits.{bits_of}
use Rattle.semantics.specs.Books.{Sense as TheSense, at_least, at_most}
use Rattle.claims.specs.declared.Named.{Named}
use Rattle.claims.specs.declared.Named.TheVariants.{Individual, Set}
use Rattle.claims.specs.declared.Sense.{Sense}
use Rattle.claims.specs.declared.Sense.TheVariants.{AtLeast, AtMost}

abbrev pub members_named : Named → List ℕ
members_named (Individual x) = x ∷ []
members_named (Set x) = bits_of x

abbrev pub as_sense : Sense → TheSense
as_sense AtLeast = at_least
as_sense AtMost = at_most
