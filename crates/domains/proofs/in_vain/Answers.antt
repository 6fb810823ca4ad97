-- `domains::in_vain` meets its contract.
-- Assumes nothing.
use mathlib.Core.Path.{◌≡◌, refl, sym, subst}
use mathlib.Core.Bool.{Bool}
use Prim.Native.Nat.{ℕ, ◌<◌}
use native.Mathlib.Omega.{arith}
use lib.ListN.{length, get_or}
use borrow.Author.Rules.{rules}
use borrow.Author.Tests.{tests}
use Rattle.std.specs.Bool.{MatchBool}
use Rattle.std.specs.List.{range_with_len, AllWithin, HoldsAt}
use Rattle.std.proofs.lemmas.Bool.{MatchBool-at_true, MatchBool-at_false}
use Rattle.std.proofs.lemmas.Iterator.{cases_from_any, YieldsList-from_range}
use Rattle.std.proofs.lemmas.List.FromFn.{length-range_with_len, get_or-range_with_len}
use Rattle.chain.specs.Decisions.{Tells}
use Rattle.domains.specs.Tables.{Lacks}
use Rattle.domains.proofs.in_vain.Goals as goal

-- of the numbers below n, where they were asked one after another
some_told : (P : ℕ → Type 0) (n : ℕ) (r : Bool)
    → MatchBool r ((k : ℕ) × (k < length (range_with_len 0 n)) × HoldsAt P (range_with_len 0 n) k)
    (AllWithin (λ j. ¬ P j) (range_with_len 0 n) 0 (length (range_with_len 0 n)))
    → Tells r ((j : ℕ) × (j < n) × P j)
some_told P n r m = (
  λ e. let w = MatchBool-at_true _ _ e m in let l : w.0 < n = omega (arith, w.1, len) in (w.0, l, subst P (is w.0 l) (w.2 0)),
  λ e v. MatchBool-at_false _ _ e m v.0 0 (omega arith) (omega (arith, v.1, len)) (subst P (sym (is v.0 v.1)) v.2),
)
  where
    len : length (range_with_len 0 n) ≡ n
    len = length-range_with_len 0 n

    is : (j : ℕ) → j < n → get_or (range_with_len 0 n) j 0 ≡ j
    is j l = omega (arith, get_or-range_with_len 0 n j 0 l)

pub returns : goal.returns
returns c =
    let a = c.args in
    some_told (Lacks a.table.now a.count) a.individuals c.any.result
    (cases_from_any _ _ _ (Lacks a.table.now a.count) (λ j. ¬ Lacks a.table.now a.count j) c.any.ensures.ran
    (YieldsList-from_range 0 a.individuals a.individuals refl (omega arith)) (λ x q k. search (rules, tests)) (λ x q k. search (rules, tests)))
