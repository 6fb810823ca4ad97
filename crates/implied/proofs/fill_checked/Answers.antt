-- `implied::fill_checked` meets its contract.
-- Assumes nothing.
use mathlib.Core.List.{List}
use mathlib.Core.Path.{sym, subst, ◌∙◌}
use Prim.Native.Nat.{ℕ, ◌≤◌}
use native.Mathlib.Omega.{arith}
use lib.ListN.{length}
use Rattle.sections.specs.Terms.{term_count, TermsRight}
use Rattle.book.proofs.Opening.{opened_accepted}
use Rattle.book.proofs.Reading.{right-terms, right-few}
use Rattle.counter.proofs.Counting.{counted-candidates, counted_small}
use Rattle.implied.proofs.Implying.{size_is, filled}
use Rattle.implied.proofs.fill_checked.Goals as goal

pub new-grader-requires : goal.new-grader-requires
new-grader-requires c =
    let ok = opened_accepted _ _ c.args.counted.book.opened in
    let few = right-few _ _ ok in
    let count = right-terms _ _ ok in
    record {
      terms_right = subst TermsRight (sym c.terms.ensures) ok.terms_right;
      terms_few = subst (λ (l : List ℕ). term_count l ≤ 64) (sym c.terms.ensures) (omega (arith, few, count));
    }

pub fill_table-requires : goal.fill_table-requires
fill_table-requires c =
    let k = c.args.counted in
    let ok = opened_accepted _ _ k.book.opened in
    record {
      count_bound = (omega (arith, c.mark_checked-survivors.auto), counted_small _ k.count k.counted);
      table_long = rw c.new-grader.ensures.terms_are
          (subst (λ (n : ℕ). n ≤ length c.args.table.now) (size_is _ _ ok _ c.terms.ensures) c.requires.table_long);
    }

pub returns : goal.returns
returns c =
    let k = c.args.counted in
    let ok = opened_accepted _ _ k.book.opened in
    let mark = c.mark_checked-survivors in
    record {
      value = mark.ensures.value;
      marks_after = mark.ensures.marks_after;
      table_after = rw c.new-grader.ensures.logic_is at c.fill_table.ensures
          ∙ filled _ _ ok _ _ (c.new-grader.ensures.terms_are ∙ c.terms.ensures) c.logic.ensures.s_value c.args.marks.now _ k.count
          (counted-candidates _ _ k.count k.counted).1 mark.ensures.marks_after c.args.table.now;
    }
