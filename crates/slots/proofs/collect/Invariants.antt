-- `slots::collect` meets its contract. The quantified terms before term `i` are written.
-- Assumes nothing.
use Rattle.sections.specs.Terms.{terms_of}
use Rattle.slots.specs.Collecting.{SlotsCollected}
use Rattle.slots.proofs.collect.Given as goal

abbrev pub invariant-loop-i : goal.invariant-loop-i
invariant-loop-i l = SlotsCollected (terms_of l.terms) l.slots l.i l.m
