-- `models::name_grade` meets its contract. The search finds the first term that has the name, or none.
-- Assumes nothing.
use mathlib.Core.Path.{◌≡◌, ◌∙◌}
use Prim.Native.Nat.{ℕ}
use native.Mathlib.Omega.{arith}
use lib.ListN.{get_or}
use borrow.Author.Rules.{rules}
use Rattle.std.proofs.lemmas.Iterator.{first_from_Range}
use Rattle.semantics.specs.Terms.{term, name}
use Rattle.sections.specs.Terms.{terms_of}
use Rattle.sections.proofs.Terms.{length-terms}
use Rattle.models.proofs.Listing.{each_option}
use Rattle.models.proofs.Rows.{name-found, name_missed}
use Rattle.models.proofs.name_grade.Goals as goal

pub returns : goal.returns
returns c =
    let a = c.args in
    let ts = terms_of a.grader.now.terms.now in
    let Is : ℕ → Type 0 = λ i. term ts i ≡ name a.a in
    let w = first_from_Range _ _ _ c.find.result Is (λ i. ¬ Is i) c.find.ensures.ran (λ x q k. search rules) (λ x q k. search rules) in
    each_option c.find.result
    (λ e. let m = rw e at c.map_or.ensures in
    let f = rw e at w in m ∙ name_missed ts a.a a.row.now (λ i l. f i (omega arith) (omega (arith, l, length-terms a.grader.now.terms.now))))
    (λ i e. let m = rw e at c.map_or.ensures in
    let f = rw e at w in
    let is : c.map_or.result ≡ get_or a.row.now i 0 = search rules in
    is ∙ name-found ts a.a a.row.now i (omega (arith, f.1, length-terms a.grader.now.terms.now)) f.2 (λ j l. f.3 j (omega arith) l))
