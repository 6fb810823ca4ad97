-- Laws of the bounded number: what it says below the limit and above, and what is known from what it says.
-- Assumes nothing.
use mathlib.Core.Path.{◌≡◌, ap, ◌∙◌}
use Rattle.std.specs.Prelude.{Some, None}
use mathlib.Core.Logic.{dite, if_pos, if_neg}
use Prim.Native.Nat.{ℕ, ◌^◌, ◌≤◌, ◌<◌}
use native.Mathlib.Nat.{pow-zero}
use native.Mathlib.Decide.{dec_le}
use native.Mathlib.Omega.{arith}
use Rattle.powers.specs.Bounded.{bounded}

-- document 02, P3: "the exact power up to 16,384,
pub bounded_exactly : (m : ℕ) → m ≤ 16384 → bounded m ≡ Some m
unfolding bounded
bounded_exactly m h = if_pos (dec_le m 16384) h (Some m) None

-- and above that only "more"."
pub bounded-more : (m : ℕ) → 16384 < m → bounded m ≡ None
unfolding bounded
bounded-more m h = if_neg (dec_le m 16384) (λ g. omega arith) (Some m) None

-- the limit is itself exact, the next number is not, and no places give 1 on every chain
pub limit_exact : bounded 16384 ≡ Some 16384
limit_exact = bounded_exactly 16384 (omega arith)

pub past_limit_more : bounded 16385 ≡ None
past_limit_more = bounded-more 16385 (omega arith)

pub no_places_one : (b : ℕ) → bounded (b ^ 0) ≡ Some 1
no_places_one b = ap bounded (pow-zero b) ∙ bounded_exactly 1 (omega arith)

pub exactly_bounded : (m k : ℕ) → bounded m ≡ Some k → (m ≡ k) × (m ≤ 16384)
exactly_bounded m k e =
    dite (dec_le m 16384) (λ h. (cc (bounded_exactly m h), h))
    (λ h. let clash : ◌≡◌ {A = ℕ} 0 1 = cc (bounded-more m (omega arith)) in absurd (omega arith))

pub more-bounded : (m : ℕ) → bounded m ≡ None → 16384 < m
more-bounded m e =
    dite (dec_le m 16384) (λ h. let clash : ◌≡◌ {A = ℕ} 0 1 = cc (bounded_exactly m h) in omega arith) (λ h. omega arith)
