-- The strongest link claim that each role's terms bound, for each ordered pair of individuals. Pair 8 p + q is the one from p to q.
-- Assumes nothing.
use Rattle.std.specs.Prelude.{◌≡◌, ◌⊎◌, List, [], ℕ, ◌+◌, ◌*◌, ◌≤◌, ◌<◌, get_or, set}
use Rattle.semantics.specs.Books.{LinkClaim}
use Rattle.semantics.specs.Links.{Governs}
use Rattle.claims.specs.Claims.{claim_count, link_at}
use Rattle.gradings.specs.Gradings.{grading}
use Rattle.gradings.specs.declared.Logic.{Logic}

-- the pair of individuals that a link claim is about
abbrev pub pair_of : LinkClaim → ℕ
pair_of q = 8 * q.source + q.target

-- the terms of the role t bound the links of the role r
abbrev pub Bounds : Logic → (t r : ℕ) → Type 0
Bounds l t r = Governs (grading l []) t r

-- the greatest grade claimed for the pair x of a role that the terms of the role t bound, 0 where none is: a byte for each, 64 for a role
abbrev pub level_at : (levels : List ℕ) (t x : ℕ) → ℕ
level_at levels t x = get_or levels (64 * t + x) 0

-- roles and individuals are below 8
abbrev pub ClaimsRanged : (ls : List ℕ) → Type 0
ClaimsRanged ls = (i : ℕ) → i < claim_count ls → ((link_at ls i).role < 8) × ((link_at ls i).source < 8) × ((link_at ls i).target < 8)

-- ---- the levels of the claims that were noted, where claim i was noted for the role t

pub record LevelsBy (l : Logic) (ls : List ℕ) (Noted : (i t : ℕ) → Type 0) (levels : List ℕ) : Type 0 where
  pub most : (i t : ℕ) → Noted i t → t < 8 → Bounds l t (link_at ls i).role → (link_at ls i).grade ≤ level_at levels t (pair_of (link_at ls i))
  pub some : (t x : ℕ) → t < 8 → x < 64 → 0 < level_at levels t x
      → (i : ℕ) × Noted i t × Bounds l t (link_at ls i).role × (pair_of (link_at ls i) ≡ x) × ((link_at ls i).grade ≡ level_at levels t x)

-- the first k claims, for every role
abbrev pub LevelsOf : Logic → (ls : List ℕ) (k : ℕ) (levels : List ℕ) → Type 0
LevelsOf l ls k = LevelsBy l ls (λ i t. i < k)

-- and claim k for the roles below b
abbrev pub LevelsUpTo : Logic → (ls : List ℕ) (k b : ℕ) (levels : List ℕ) → Type 0
LevelsUpTo l ls k b = LevelsBy l ls (λ i t. (i < k) ⊎ ((i ≡ k) × (t < b)))

-- the byte `at` was raised to the grade of a claim of the role r, where the terms of the role t bound it
abbrev pub NotedFor : Logic → (t r grade at : ℕ) (old new : List ℕ) → Type 0
NotedFor l t r g at old new =
    ((¬ Bounds l t r) × (new ≡ old)) ⊎ (Bounds l t r × (((g ≤ get_or old at 0) × (new ≡ old)) ⊎ ((get_or old at 0 < g) × (new ≡ set old at g))))
