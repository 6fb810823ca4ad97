-- Laws of iterators over the numbers below a bound: what `all` tells of a test.
-- Assumes nothing.
use mathlib.Core.Path.{◌≡◌, refl, subst}
use mathlib.Core.Bool.{Bool, true, false}
use mathlib.Core.List.{List}
use Prim.Native.Nat.{ℕ, ◌<◌}
use native.Mathlib.Omega.{arith}
use lib.ListN.{get_or}
use denote.Param.Members.{Mut}
use Rattle.std.specs.Fn.{Called}
use Rattle.std.specs.List.{FoldsTo, range_with_len}
use Rattle.std.specs.Option.{MatchOption}
use Rattle.std.specs.Iterator.{YieldsThen}
use Rattle.std.specs.declared.ops.Range.{Range}
use Rattle.std.specs.declared.option.Option.{Option}
use Rattle.std.proofs.iter.Yields.{nat_range_steps}
use Rattle.std.proofs.lemmas.Iterator.{cases_from_all, YieldsList-from_range}
use Rattle.std.proofs.lemmas.List.FromFn.{length-range_with_len, get_or-range_with_len}
use Rattle.std.proofs.lemmas.Bool.{MatchBool-at_true, MatchBool-at_false}
use Rattle.chain.specs.Decisions.{Tells}

-- where a closure tells of each number that it is asked about whether the fact holds, `(0..n).all(..)` tells whether it holds of all
pub all-tells : {F : Type 0} {g : Mut F (ℕ × Unit {0}) Bool} (P : ℕ → Type 0) (n : ℕ) (u : Range ℕ) (f : F) (r : Bool)
    → (xs : List ℕ) × (o : Option ℕ) × (j : F) × YieldsThen nat_range_steps (record { start = 0; end = n }) xs o u
    × FoldsTo (λ p x q. Called g p (x, tt) true q) f xs j
    × MatchOption o (r ≡ true) (λ x. (r ≡ false) × ((h : F) × Called g j (x, tt) false h))
    → ((x : ℕ) (q : F) → Called g f (x, tt) true q → (q ≡ f) × P x) → ((x : ℕ) (q : F) → Called g f (x, tt) false q → ¬ P x)
    → Tells r ((i : ℕ) → i < n → P i)
all-tells P n u f r ran passed failed =
    let cases = cases_from_all u f r P (λ i. ¬ P i) ran (YieldsList-from_range 0 n n refl (omega arith)) passed failed in (
      λ t i l. subst P (at i l) (MatchBool-at_true _ _ t cases i 0 (omega arith) (rw length-range_with_len l)),
      λ e h. let w = MatchBool-at_false _ _ e cases in
          let l : w.0 < n = omega (arith, w.1, length-range_with_len 0 n) in
          subst (λ (i : ℕ). ¬ P i) (at w.0 l) (w.2 0) (h w.0 l),
    )
  where
    at : (i : ℕ) → i < n → get_or (range_with_len 0 n) i 0 ≡ i
    at i l = omega (arith, get_or-range_with_len 0 n i 0 l)
