-- `term_sets::gather` meets its contract. The word has a bit for each term from number `j` on.
-- Assumes nothing.
use Rattle.term_sets.specs.Sets.{GatheredFrom}
use Rattle.term_sets.proofs.gather.Given as goal

abbrev pub invariant-loop-j : goal.invariant-loop-j
invariant-loop-j l = GatheredFrom l.row l.level l.j l.word
