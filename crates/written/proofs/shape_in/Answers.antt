-- `written::shape_in` meets its contract.
-- Assumes nothing.
use mathlib.Core.Path.{refl, ap}
use Rattle.book.specs.declared.Counts.{Counts}
use Rattle.written.proofs.shape_in.Goals as goal

pub returns : goal.returns
returns c = let e = c.counts-counts.ensures.value in
    (refl, ap (λ (k : Counts). k.names) e, ap (λ (k : Counts). k.roles) e, ap (λ (k : Counts). k.individuals) e)
