-- `grades::Grader::term_grade` meets its contract.
-- Assumes nothing.
use mathlib.Core.Path.{sym, ap, ◌∙◌}
use lib.ListN.{length}
use Rattle.types.specs.Candidates.{place, HasPlace}
use Rattle.sections.specs.Terms.{term_at}
use Rattle.sections.specs.Values.{as_quantifier, as_term}
use Rattle.grades.proofs.OneTerm.{grade-term, grade-place, rest-none, rest-place, grade-quantified, rest-quantified}
use Rattle.grades.proofs.Grader.term_grade.Goals as goal

pub returns-in-Not : goal.returns-in-Not
returns-in-Not c =
    let t = c.in-Not.ensures.term_value in record {
      grade_value = rw (c.negation.ensures, c.from.ensures) (grade-term _ _ _ _ _ _ t);
      rest_value = rest-none _ _ _ _ c.requires.is_next _ t (λ z. z);
    }

pub returns-in-And : goal.returns-in-And
returns-in-And c =
    let t = c.in-And.ensures.term_value in record {
      grade_value = rw (c.conjunction.ensures, c.from-in-And.ensures, c.from-in-And-2.ensures) (grade-term _ _ _ _ _ _ t);
      rest_value = rest-none _ _ _ _ c.requires.is_next _ t (λ z. z);
    }

pub returns-in-Or : goal.returns-in-Or
returns-in-Or c =
    let t = c.in-Or.ensures.term_value in record {
      grade_value = rw (c.disjunction.ensures, c.from-in-Or.ensures, c.from-in-Or-2.ensures) (grade-term _ _ _ _ _ _ t);
      rest_value = rest-none _ _ _ _ c.requires.is_next _ t (λ z. z);
    }

pub returns-in-Top : goal.returns-in-Top
returns-in-Top c =
    let t = c.in-Top.ensures.term_value in
    record { grade_value = grade-term _ _ _ _ _ _ t; rest_value = rest-none _ _ _ _ c.requires.is_next _ t (λ z. z) }

pub returns-in-Bottom : goal.returns-in-Bottom
returns-in-Bottom c =
    let t = c.in-Bottom.ensures.term_value in
    record { grade_value = grade-term _ _ _ _ _ _ t; rest_value = rest-none _ _ _ _ c.requires.is_next _ t (λ z. z) }

pub returns-in-Quantified : goal.returns-in-Quantified
returns-in-Quantified c =
    let w = c.in-Quantified in
    let t = sym (ap as_term w.is) ∙ c.term_at.ensures.term_value in record {
      grade_value = c.digit_grade.ensures.0 ∙ grade-quantified _ _ c.requires.is_next (as_quantifier w.quantifier) w.role w.child t _ _;
      rest_value = c.digit_grade.ensures.1 ∙ rest-quantified _ _ c.requires.is_next (as_quantifier w.quantifier) w.role w.child t _ _;
    }

pub returns-in-Name : goal.returns-in-Name
returns-in-Name c =
    let a = c.args in
    let has : HasPlace (place (term_at a.self.now.terms.now (length a.earlier.now))) =
    rw (← c.term_at.ensures.term_value, c.in-Name.is) tt in record {
      grade_value = c.place_grade.ensures.grade_value ∙ grade-place _ _ _ _ _ has;
      rest_value = c.place_grade.ensures.rest_value ∙ rest-place _ _ _ _ c.requires.is_next has;
    }
