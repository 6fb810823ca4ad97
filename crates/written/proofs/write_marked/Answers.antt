-- `written::write_marked` meets its contract.
-- Assumes nothing.
use mathlib.Core.List.{List, [], ◌++◌}
use mathlib.Core.Option.{Option, some}
use mathlib.Core.Path.{sym, ap, ap₂, subst, ◌∙◌}
use Prim.Native.Nat.{ℕ, ◌≤◌}
use native.Mathlib.Omega.{arith}
use lib.Seq.{length-take-le}
use lib.ListN.{length, take, drop}
use Rattle.written.proofs.Writing.{end_same, model_of_lem}
use Rattle.book.proofs.Reading.{right-terms, right-few, right-names, right_roles, right-individuals}
use Rattle.book.proofs.Opening.{opened_accepted}
use Rattle.counter.proofs.Counting.{counted_small}
use Rattle.decider.specs.Deciding.{placement_in}
use Rattle.sections.specs.Terms.{term_count, TermsRight}
use Rattle.written.proofs.write_marked.Goals as goal

pub read_placement-requires : goal.read_placement-requires
read_placement-requires c =
    let book = c.args.held.marked.counted.book in
    let few = right-individuals book.bytes.now book.sections (opened_accepted _ _ book.opened) in
    (omega (arith, c.requires.elements_value.3, few, c.args.held.placement_long), omega (arith, c.requires.elements_value.3, few))

pub list_marked-n-requires : goal.list_marked-n-requires
list_marked-n-requires c =
    let marked = c.args.held.marked in (
      counted_small _ _ marked.counted.counted,
      marked.marks_long,
      omega (arith, ap length marked.listed, c.requires.elements_value.0, c.requires.elements_bound.0),
    )

pub slice_bounds-types-end : goal.slice_bounds-types-end
slice_bounds-types-end c =
    omega (arith, c.list_marked-n.ensures.0, ap length c.args.held.marked.listed, c.requires.elements_value.0, c.requires.elements_bound.0, c.list_marked-n.auto)

pub slice_bounds-seats-end : goal.slice_bounds-seats-end
slice_bounds-seats-end c =
    let book = c.args.held.marked.counted.book in
    omega (arith, c.requires.elements_value.3, right-individuals book.bytes.now book.sections (opened_accepted _ _ book.opened), c.read_placement.auto)

pub new-grader-requires : goal.new-grader-requires
new-grader-requires c =
    let book = c.args.held.marked.counted.book in
    let ok = opened_accepted _ _ book.opened in
    let e = sym c.terms.ensures in record {
      terms_right = subst (λ (z : List ℕ). TermsRight z) e ok.terms_right;
      terms_few = subst (λ (z : List ℕ). term_count z ≤ 64) e (omega (arith, right-terms book.bytes.now book.sections ok, right-few book.bytes.now book.sections ok));
    }

pub slice_bounds-listed-end-2 : goal.slice_bounds-listed-end-2
slice_bounds-listed-end-2 c =
    let book = c.args.held.marked.counted.book in
    sym (length-take-le c.args.p.individuals c.read_placement.new.seats
    (omega (arith, c.requires.elements_value.3, right-individuals book.bytes.now book.sections (opened_accepted _ _ book.opened), c.read_placement.auto)))

pub invariant_of-listed : goal.invariant_of-listed
invariant_of-listed c =
    let marked = c.args.held.marked in
    let book = marked.counted.book in
    let b = book.bytes.now in
    let s = book.sections in
    let ok = opened_accepted b s book.opened in
    let list-marked = c.list_marked-n in
    let few = right-individuals b s ok in
    let lt = (ap length (list-marked.ensures.1 ∙ marked.listed) ∙ sym c.requires.elements_value.0) in
    let li = length-take-le c.args.p.individuals c.read_placement.new.seats (omega (arith, c.requires.elements_value.3, few, c.read_placement.auto)) in record {
      few = (
        omega (arith, lt, c.requires.elements_bound.0),
        omega (arith, li, c.requires.elements_value.3, few),
        omega (arith, c.requires.elements_value.1, right-names b s ok),
        omega (arith, c.requires.elements_value.2, right_roles b s ok),
      );
    }

pub write_model-requires : goal.write_model-requires
write_model-requires c =
    let marked = c.args.held.marked in
    let book = marked.counted.book in
    let b = book.bytes.now in
    let s = book.sections in
    let ok = opened_accepted b s book.opened in
    let list-marked = c.list_marked-n in
    let seats = c.read_placement.new.seats in
    let few = right-individuals b s ok in
    let lt = (ap length (list-marked.ensures.1 ∙ marked.listed) ∙ sym c.requires.elements_value.0) in
    let li = length-take-le c.args.p.individuals seats (omega (arith, c.requires.elements_value.3, few, c.read_placement.auto)) in
    omega (
      arith,
      end_same s.steps c.new-grader.result.logic c.new-grader.result.terms.now c.args.p
          (take list-marked.result list-marked.new.types) (take c.args.p.individuals seats) lt li,
      c.requires.elements_bound.2,
    )

pub returns : goal.returns
returns c =
    let held = c.args.held in
    let book = held.marked.counted.book in
    let b = book.bytes.now in
    let s = book.sections in
    let ok = opened_accepted b s book.opened in
    let list-marked = c.list_marked-n in
    let logic = c.logic in
    let read-placement = c.read_placement in
    let seats = read-placement.new.seats in
    let lt = (ap length (list-marked.ensures.1 ∙ held.marked.listed) ∙ sym c.requires.elements_value.0) in
    let li = length-take-le c.args.p.individuals seats (omega (arith, c.requires.elements_value.3, right-individuals b s ok, read-placement.auto)) in
    let there = held.placed c.requires.elements_bound.1
    ∙ ap {B = Option (List ℕ)} (λ (n : ℕ). some (placement_in held.placement.now n)) (sym c.requires.elements_value.3) in
    rw (c.new-grader.ensures.logic_is, c.new-grader.ensures.terms_are) at c.write_model.ensures
    ∙ ap₂ (λ (l : List ℕ) (n : ℕ). l ++ drop n c.args.sheet.now)
    (model_of_lem b s ok logic.result logic.ensures.s_value _ (take list-marked.result list-marked.new.types)
    (take c.args.p.individuals seats) c.args.p.names c.args.p.roles c.terms.ensures
    (list-marked.ensures.1 ∙ held.marked.listed) (there ∙ ap {B = Option (List ℕ)} some (sym read-placement.ensures)) c.requires.elements_value.1
    c.requires.elements_value.2)
    (end_same s.steps logic.result [] c.args.p (take list-marked.result list-marked.new.types) (take c.args.p.individuals seats) lt li)
