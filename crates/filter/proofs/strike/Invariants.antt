-- `filter::strike` meets its contract. The individuals below `j` are struck, where the claim mentions them.
-- Assumes nothing.
use Rattle.semantics.specs.Books.{Mentions}
use Rattle.claims.specs.Claims.{membership_of}
use Rattle.filter.specs.Filter.{Struck}
use Rattle.filter.proofs.strike.Given as goal

abbrev pub invariant-loop-j : goal.invariant-loop-j
invariant-loop-j l = Struck (Mentions (membership_of l.claim)) l.j l.initial.fits l.fits
