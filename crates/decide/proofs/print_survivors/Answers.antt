-- `decide::print_survivors` meets its contract.
-- Assumes nothing.
use mathlib.Core.List.{List}
use mathlib.Core.Path.{sym, subst}
use Prim.Native.Nat.{ℕ, ◌≤◌}
use native.Mathlib.Omega.{arith}
use Rattle.book.proofs.Reading.{right-terms, right-few}
use Rattle.book.proofs.Opening.{opened_accepted}
use Rattle.sections.specs.Terms.{term_count, TermsRight}
use Rattle.decide.proofs.print_survivors.Goals as goal

pub print_types-requires : goal.print_types-requires
print_types-requires g c =
    let ok = opened_accepted _ _ c.args.book.opened in
    let e = sym c.terms.ensures in
    record {
      terms_right = subst (λ (z : List ℕ). TermsRight z) e ok.terms_right;
      terms_bound = (
        subst (λ (z : List ℕ). term_count z ≤ 64) e (omega (arith, right-terms _ _ ok, right-few _ _ ok)),
        omega (arith, c.logic.ensures.le_steps),
        c.requires,
      );
    }
