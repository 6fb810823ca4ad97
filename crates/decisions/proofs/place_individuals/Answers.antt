-- `decisions::place_individuals` meets its contract.
-- Assumes nothing.
use mathlib.Core.List.{List}
use mathlib.Core.Option.{Option}
use mathlib.Core.Path.{sym, ap, ◌∙◌}
use Prim.Native.Nat.{ℕ}
use native.Mathlib.Omega.{arith}
use lib.Seq.{length-take-le}
use lib.ListN.{take}
use Rattle.decisions.proofs.Decided.{outcome_1, outcome_2}
use Rattle.decisions.specs.Decided.{placed_in}
use Rattle.book.specs.declared.Counts.{Counts}
use Rattle.book.specs.Reading.{book_of}
use Rattle.decisions.proofs.place_individuals.Goals as goal

pub seat-requires : goal.seat-requires
seat-requires c =
    record {
      equipped = c.requires.equipped;
      individuals_value = (ap (λ (k : Counts). k.individuals) c.counts-individuals.ensures.value, omega (arith, c.counts-individuals.ensures.names_bound));
    }

pub returns-then-not-seat : goal.returns-then-not-seat
returns-then-not-seat c =
    let seat = c.seat in
    let o = outcome_2 (book_of c.args.marked.counted.book.bytes.now) c.requires.nonzero.0 seat.result (take c.counts-individuals.result.individuals seat.new.seats)
    seat.ensures c.if-not-seat.true in
    record { value = o.0; placement_after = o.1 _ }

pub slice_bounds-seats-end : goal.slice_bounds-seats-end
slice_bounds-seats-end c = omega (arith, c.counts-individuals.ensures.names_bound, c.seat.auto)

pub slice_bounds-write_placement-end : goal.slice_bounds-write_placement-end
slice_bounds-write_placement-end c = sym (length-take-le _ _ (omega (arith, c.counts-individuals.ensures.names_bound, c.seat.auto)))

pub write_placement-requires : goal.write_placement-requires
write_placement-requires c =
    let seat = c.seat in
    omega (
      arith,
      length-take-le c.counts-individuals.result.individuals seat.new.seats (omega (arith, c.counts-individuals.ensures.names_bound, seat.auto)),
      c.counts-individuals.ensures.names_bound,
      c.requires.nonzero.1,
    )

pub returns : goal.returns
returns c =
    let seat = c.seat in
    let o = outcome_1 (book_of c.args.marked.counted.book.bytes.now) c.requires.nonzero.0 seat.result (take c.counts-individuals.result.individuals seat.new.seats)
    seat.ensures c.if-not-seat.false in
    record { value = o.0; placement_after = c.write_placement.ensures ∙ ap (λ (p : Option (List ℕ)). placed_in p c.args.placement.now) (sym o.1) }
