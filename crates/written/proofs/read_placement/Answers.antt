-- `written::read_placement` meets its contract. Before individual `j` those before it have been read.
-- Assumes nothing.
use mathlib.Core.Path.{refl, ◌∙◌}
use native.Mathlib.Omega.{arith}
use lib.ListN.{length-set}
use Rattle.written.proofs.Seats.{placement-next, placement_read}
use Rattle.written.proofs.read_placement.Goals as goal

pub loop-j-init : goal.loop-j-init
loop-j-init c = record { same_length = refl; read = λ i h. absurd (omega arith) }

pub word-requires : goal.word-requires
word-requires c = omega (arith, c.requires.0)

pub overflow_cast-seats : goal.overflow_cast-seats
overflow_cast-seats c = omega (arith, c.word.ensures.1)

pub bounds-seats-j : goal.bounds-seats-j
bounds-seats-j c = omega (arith, c.loop-j.invariant.same_length, c.requires.1)

pub loop-j-preserved : goal.loop-j-preserved
loop-j-preserved c =
    let loop = c.loop-j in
    let word = c.word in
    record {
      same_length = length-set loop.seats loop.j word.result ∙ loop.invariant.same_length;
      read = placement-next c.args.placement.now loop.seats loop.j word.result (omega (arith, loop.invariant.same_length, c.requires.1)) word.ensures.0
          loop.invariant.read;
    }

pub returns : goal.returns
returns c =
    let loop = c.loop-j in
    placement_read c.args.placement.now loop.seats c.args.count (omega (arith, loop.invariant.same_length, c.requires.1)) (λ i h. loop.invariant.read i (omega arith))
