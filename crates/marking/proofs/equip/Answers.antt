-- `marking::equip` meets its contract.
-- Assumes nothing.
use mathlib.Core.List.{List}
use mathlib.Core.Path.{sym, subst}
use Prim.Native.Nat.{◌*◌, ℕ, ◌≤◌}
use native.Mathlib.Omega.{arith}
use lib.Seq.{length-take-le}
use lib.ListN.{take}
use Rattle.types.specs.Candidates.{places}
use Rattle.sections.specs.Terms.{term_count, terms_of}
use Rattle.slots.specs.Slots.{SlotsOf}
use Rattle.book.proofs.Opening.{opened_accepted}
use Rattle.book.proofs.Reading.{right-terms, right-few}
use Rattle.counter.proofs.Counting.{counted-few_candidates}
use Rattle.marking.proofs.Equipped.{places_fit}
use Rattle.marking.proofs.equip.Goals as goal

pub collect-requires : goal.collect-requires
collect-requires c =
    let k = c.args.counted in
    let ok = opened_accepted _ _ k.book.opened in
    let e = sym c.terms.ensures in (
      subst (λ (z : List ℕ). term_count z ≤ 64) e (omega (arith, right-terms k.book.bytes.now k.book.sections ok, right-few k.book.bytes.now k.book.sections ok)),
      omega arith,
      subst (λ (z : List ℕ). places (terms_of z) ≤ 16) e
          (places_fit k.book.bytes.now k.book.sections c.logic.result c.logic.ensures.s_value c.logic.ensures.le_steps.0 (counted-few_candidates k.book.bytes.now k.count k.counted)),
    )

pub returns : goal.returns
returns c =
    let k = c.args.counted in
    let collect = c.collect in
    let l = length-take-le (4 * collect.result) collect.new.slots (omega (arith, collect.ensures.0, collect.auto, c.requires)) in (
      collect.ensures.0,
      record {
        right = opened_accepted _ _ k.book.opened;
        stands = c.logic.ensures.s_value;
        few_steps = c.logic.ensures.le_steps.1;
        slots_are = subst (λ (z : List ℕ). SlotsOf (terms_of z) (take (4 * collect.result) collect.new.slots)) c.terms.ensures collect.ensures.1;
        few_slots = omega (arith, l, collect.ensures.0);
      },
    )
