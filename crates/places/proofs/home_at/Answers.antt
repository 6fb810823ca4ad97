-- `places::home_at` meets its contract.
-- Assumes nothing.
use mathlib.Core.Path.{◌≡◌, sym}
use borrow.Author.Rules.{rules}
use Rattle.semantics.specs.Books.{name_above}
use Rattle.sections.specs.Terms.{term_at}
use Rattle.places.proofs.Homes.{other_home, other_noted, known-home, known-noted, new_home, new-noted}
use Rattle.places.proofs.home_at.Goals as goal

pub returns-in_default : goal.returns-in_default
returns-in_default c =
    let a = c.args in
    let q = c.requires.i_bound in
    let none : name_above (term_at a.terms.now a.i) ≡ 0 = search rules in record {
      value = sym (other_home a.terms.now a.i q.0 a.firsts.now q.2 none);
      noted = other_noted a.terms.now a.i q.0 a.firsts.now q.2 none;
    }

pub returns-in-Some : goal.returns-in-Some
returns-in-Some c =
    let a = c.args in
    let q = c.requires.i_bound in
    let n = c.in-Name in
    let known = rw c.from-name.ensures at c.in-Some.is in record {
      value = sym (known-home a.terms.now a.i q.0 a.firsts.now q.2 n.a n.ensures.operands_below n.ensures.term_value _ known);
      noted = known-noted a.terms.now a.i q.0 a.firsts.now q.2 n.a n.ensures.operands_below n.ensures.term_value _ known;
    }

pub returns-in-None : goal.returns-in-None
returns-in-None c =
    let a = c.args in
    let q = c.requires.i_bound in
    let n = c.in-Name in
    let new = rw c.from-name.ensures at c.in-None.is in record {
      value = sym (new_home a.terms.now a.i q.0 a.firsts.now q.2 n.a n.ensures.operands_below n.ensures.term_value new);
      noted = rw c.from-name.ensures (new-noted a.terms.now a.i q.0 a.firsts.now q.2 n.a n.ensures.operands_below n.ensures.term_value new c.told-firsts);
    }
