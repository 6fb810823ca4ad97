-- `passes::pass_all` meets its contract. The candidates below `c` are done, and the targets of those that stay marked are noted.
-- Assumes nothing.
use mathlib.Core.Path.{◌≡◌}
use lib.ListN.{length}
use Rattle.chain.specs.Search.{rank}
use Rattle.elimination.specs.Marks.{marked?}
use Rattle.passes.specs.Sweeps.{Noted, Dropped}
use Rattle.passes.proofs.pass_all.Given as goal

abbrev pub invariant-loop-c : goal.invariant-loop-c
invariant-loop-c l = record {
  value : l.rest ≡ rank (marked? l.marks) (length l.initial.marks);
  dropped : Dropped l.k.source.now l.alive 0 l.c l.initial.marks l.marks l.left l.rest;
  noted : Noted l.k.target.now l.marks l.present l.c;
}
