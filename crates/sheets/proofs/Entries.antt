-- What `all` over a slice tells of a test, by index.
-- Assumes nothing.
use mathlib.Core.Path.{◌≡◌}
use mathlib.Core.Bool.{Bool, true, false}
use mathlib.Core.List.{List}
use Prim.Native.Nat.{ℕ, ◌<◌}
use native.Mathlib.Omega.{arith}
use lib.ListN.{length, get_or}
use denote.Param.Members.{Mut}
use denote.Ref.{Bor}
use Rattle.std.specs.Fn.{Called}
use Rattle.std.specs.List.{FoldsTo}
use Rattle.std.specs.Option.{MatchOption}
use Rattle.std.specs.Iterator.{YieldsThen}
use Rattle.std.specs.Slice.Iter.{iter_rest}
use Rattle.std.specs.declared.slice.Iter.{Iter}
use Rattle.std.specs.declared.option.Option.{Option}
use Rattle.std.proofs.iter.Yields.{fronts}
use Rattle.std.proofs.lemmas.Iterator.{cases_from_all, YieldsList-from_slice}
use Rattle.std.proofs.lemmas.Bool.{MatchBool-at_true, MatchBool-at_false}
use Rattle.chain.specs.Decisions.{Tells}

-- where a closure tells of each entry whether the fact holds, `all` tells whether it holds of all
pub entries-tell : {F : Type 0} {g : Mut F (Bor ℕ × Unit {0}) Bool} (P : ℕ → Type 0) (s : List ℕ) (it u : Iter ℕ) (f : F) (r : Bool)
    → iter_rest it ≡ s
    → (xs : List (Bor ℕ)) × (o : Option (Bor ℕ)) × (j : F) × YieldsThen fronts it xs o u
    × FoldsTo (λ p x q. Called g p (x, tt) true q) f xs j
    × MatchOption o (r ≡ true) (λ x. (r ≡ false) × ((h : F) × Called g j (x, tt) false h))
    → ((x : Bor ℕ) (q : F) → Called g f (x, tt) true q → (q ≡ f) × P x.now) → ((x : Bor ℕ) (q : F) → Called g f (x, tt) false q → ¬ P x.now)
    → Tells r ((i : ℕ) → i < length s → P (get_or s i 0))
entries-tell P s it u f r is ran passed failed =
    let cases = cases_from_all u f r P (λ x. ¬ P x) ran (YieldsList-from_slice s is) passed failed in (
      λ t i l. MatchBool-at_true _ _ t cases i 0 (omega arith) l,
      λ e h. let w = MatchBool-at_false _ _ e cases in w.2 0 (h w.0 w.1),
    )
