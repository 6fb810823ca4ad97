-- `grades::Grader::place_grade` meets its contract.
-- Assumes nothing.
use mathlib.Core.Path.{◌∙◌}
use Prim.Native.Nat.{◌<◌}
use native.Mathlib.Omega.{arith}
use lib.ListN.{length}
use Rattle.types.specs.Candidates.{home as home_of}
use Rattle.sections.specs.Terms.{terms_of}
use Rattle.grades.proofs.OneTerm.{place-earlier, place-digit, left-earlier, left-digit}
use Rattle.grades.proofs.Grader.place_grade.Goals as goal

pub returns-then-home-earlier : goal.returns-then-home-earlier
returns-then-home-earlier c =
    let a = c.args in
    let is = c.from-home.ensures ∙ a.self.now.homes_are _ c.requires.is_next in
    let e = rw is at c.if-home-earlier.true in record {
      grade_value = rw is (place-earlier _ _ a.earlier.now e);
      rest_value = left-earlier _ _ a.earlier.now a.rest e;
    }

pub returns : goal.returns
returns c =
    let a = c.args in
    let is = c.from-home.ensures ∙ a.self.now.homes_are _ c.requires.is_next in
    let n : ¬ (home_of (terms_of a.self.now.terms.now) (length a.earlier.now) < length a.earlier.now) = λ h. omega (arith, is, h, c.if-home-earlier.false) in
    record {
      grade_value = c.digit_grade.ensures.0 ∙ place-digit _ _ a.earlier.now n;
      rest_value = c.digit_grade.ensures.1 ∙ left-digit _ _ a.earlier.now a.rest n;
    }
