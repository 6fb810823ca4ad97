-- `subsumption::fill_table` meets its contract.
-- Assumes nothing.
use mathlib.Core.List.{List, ◌++◌}
use mathlib.Core.Path.{sym, ap, ◌∙◌}
use Prim.Native.Nat.{ℕ, ◌*◌}
use lib.ListN.{drop}
use borrow.Author.Rules.{rules}
use Rattle.sections.specs.Terms.{term_count, terms_of}
use Rattle.sections.proofs.Terms.{length-terms}
use Rattle.gradings.specs.Gradings.{grading}
use Rattle.elimination.specs.Marks.{marked}
use Rattle.subsumption.proofs.Subsumption.{narrowed_marked, sets_table}
use Rattle.subsumption.proofs.fill_table.Goals as goal

pub returns : goal.returns
returns c =
    let suppose-all = c.suppose_all in
    let narrow-all = c.narrow_all in
    let G = grading c.args.grader.now.logic (terms_of c.args.grader.now.terms.now) in
    let n = term_count c.args.grader.now.terms.now in
    c.write_sets.ensures ∙ ap (λ (l : List ℕ). l ++ drop (n * n) c.args.table.now)
    (sets_table G (marked c.args.marks.now c.args.count) n narrow-all.new.sets (sym (length-terms c.args.grader.now.terms.now))
    (narrowed_marked G c.args.marks.now c.args.count n suppose-all.new.sets narrow-all.new.sets c.args.grader.now.terms_few suppose-all.ensures narrow-all.ensures))
