-- `marking::mark_by` meets its contract.
-- Assumes nothing.
use mathlib.Core.List.{List, ◌++◌}
use mathlib.Core.Path.{sym, ap, ap₂, ◌∙◌}
use Prim.Native.Nat.{ℕ}
use lib.ListN.{length, drop}
use Rattle.counter.proofs.Counting.{counted-candidates, counted_small}
use Rattle.marking.proofs.Equipped.{elimination, survivors-are}
use Rattle.elimination.specs.Marks.{marks_of}
use Rattle.marking.proofs.mark_by.Goals as goal

pub eliminate-requires : goal.eliminate-requires
eliminate-requires c =
    let k = c.args.counted in
    record {
      task = elimination k.book.bytes.now k.book.sections c.args.logic c.args.slots.now c.requires.equipped _ _ c.terms.ensures c.rules.ensures k.count
          (counted-candidates _ _ k.count k.counted).1 (counted_small k.book.bytes.now k.count k.counted);
      count_in_bounds = c.requires.marks_long;
    }

pub returns : goal.returns
returns c =
    let k = c.args.counted in
    let eliminate = c.eliminate in
    let e = survivors-are k.book.bytes.now k.book.sections c.args.logic c.args.slots.now c.requires.equipped _ _ c.terms.ensures c.rules.ensures in
    record {
      value = eliminate.ensures.value ∙ ap length e;
      marks_after = eliminate.ensures.marks_after
          ∙ ap₂ (λ (xs : List ℕ) (n : ℕ). marks_of xs n ++ drop n c.args.marks.now) e (sym (counted-candidates _ _ k.count k.counted).1);
    }
