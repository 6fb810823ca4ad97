-- `grades::Grader::fill_row` meets its contract. Before each term the row has the grades of the earlier terms, and
-- `rest` the digits of the places that are still to come.
-- Assumes nothing.
use mathlib.Core.Path.{◌≡◌, refl, ap, ◌∙◌}
use mathlib.Core.List.{List, ◌++◌}
use Prim.Native.Nat.{ℕ}
use native.Mathlib.Omega.{arith}
use lib.ListN.{length, take, drop}
use Rattle.chain.proofs.Lists.{length-table, zero_filled, take_filled, set_filled}
use Rattle.types.specs.Candidates.{grade_in, home}
use Rattle.gradings.specs.Gradings.{grading}
use Rattle.gradings.specs.declared.Logic.{Logic}
use Rattle.sections.specs.Terms.{term_count, terms_of}
use Rattle.grades.proofs.Rows.{row-terms}
use Rattle.grades.proofs.OneTerm.{rest_start, rest-next, earlier, earlier_le, grade-next}
use Rattle.grades.proofs.Grader.fill_row.Goals as goal

-- the grades before term i, as `term_grade` is given them
front : (l : Logic) (s : List ℕ) (c i : ℕ) (row old : List ℕ) → row ≡ earlier l s c i ++ drop i old → take i row ≡ earlier l s c i
front l s c i row old is = ap (take i) is ∙ take_filled (grade_in (grading l (terms_of s)) c) old i

pub loop-i-init : goal.loop-i-init
loop-i-init c = record { filled = zero_filled _ _; left = rest_start _ _ _ }

pub term_grade-g-requires-clause-on_chain : goal.term_grade-g-requires-clause-on_chain
term_grade-g-requires-clause-on_chain c j =
    let g = c.args.self.now in
    rw (front g.logic g.terms.now c.args.c c.loop-i.i _ _ c.loop-i.invariant.filled)
    (earlier_le g.logic g.terms.now g.terms_right c.args.c c.loop-i.i c.loop-i.auto.i-end j)

pub loop-i-preserved : goal.loop-i-preserved
loop-i-preserved c =
    let g = c.args.self.now in
    let l = c.loop-i in
    let before = front g.logic g.terms.now c.args.c l.i _ _ l.invariant.filled in
    let n : length (take l.i l.row) ≡ l.i = ap length before ∙ length-table _ l.i in
    let v = c.term_grade-g.ensures in record {
      filled = rw (
        v.grade_value ∙ grade-next g.logic g.terms.now g.terms_right c.args.c l.i l.rest _ _ _ c.loop-i-test.true before l.invariant.left refl (ap (home (terms_of g.terms.now)) n),
        l.invariant.filled,
      )
          (set_filled (grade_in (grading g.logic (terms_of g.terms.now)) c.args.c) c.args.row.now l.i (omega arith));
      left = rw (v.rest_value, n, l.invariant.left) (rest-next g.logic.steps g.terms.now c.args.c l.i);
    }

pub returns : goal.returns
returns c =
    let g = c.args.self.now in
    let e : c.loop-i.i ≡ term_count g.terms.now = omega arith in
    rw (row-terms g.logic g.terms.now c.args.c, ← e) c.loop-i.invariant.filled
