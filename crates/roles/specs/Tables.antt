-- The roles that are reached from each role, as a table of 8 times 8 bytes, and the hierarchy that such a table stands for.
-- Assumes nothing.
use Rattle.std.specs.Prelude.{◌≡◌, ◌⊎◌, ◌↔◌, List, ℕ, ◌+◌, ◌*◌, ◌<◌, get_or, set}
use Rattle.std.proofs.Math.Decide.{ℕ_discrete}
use Rattle.chain.specs.Lists.{keep}
use Rattle.semantics.specs.Roles.{RolePair, Upward, role_pairs}

-- role s is marked in the row of role r: byte 8 r + s is 1
abbrev pub Marked : List ℕ → (r s : ℕ) → Type 0
Marked t r s = get_or t (8 * r + s) 0 ≡ 1

-- marked are the roles that are reached by the pairs
abbrev pub Reaches : List RolePair → List ℕ → Type 0
Reaches ps t = (r s : ℕ) → r < 8 → s < 8 → Marked t r s ↔ Upward ps r s

-- the hierarchy that a table stands for
unfoldable pub hierarchy_in : List ℕ → List RolePair
hierarchy_in t = keep (λ q. ℕ_discrete (get_or t (8 * q.lower + q.upper) 0) 1) role_pairs

-- ---- on the way

-- byte `to` was marked where byte `from` is
abbrev pub Copied : (from to : ℕ) (old new : List ℕ) → Type 0
Copied from to old new = (get_or old from 0 ≡ 1 → new ≡ set old to 1) × (¬ (get_or old from 0 ≡ 1) → new ≡ old)

-- in row r the roles below k that are marked in row u were added
abbrev pub Joined : (r u k : ℕ) (old new : List ℕ) → Type 0
Joined r u k old new = (x y : ℕ) → x < 8 → y < 8 → Marked new x y ↔ (Marked old x y ⊎ ((x ≡ r) × (y < k) × Marked old u y))

-- all of them, where the role l is marked in row r
abbrev pub JoinedWhere : (r l u : ℕ) (old new : List ℕ) → Type 0
JoinedWhere r l u old new = (Marked old r l → Joined r u 8 old new) × (¬ Marked old r l → new ≡ old)

-- in the rows below k in which the role l is marked, the roles that are marked in row u were added
abbrev pub Linked : (l u k : ℕ) (old new : List ℕ) → Type 0
Linked l u k old new = (x y : ℕ) → x < 8 → y < 8 → Marked new x y ↔ (Marked old x y ⊎ ((x < k) × Marked old x l × Marked old u y))

-- the rows below k have the mark of their own role, and no other byte is marked
abbrev pub Diagonal : (k : ℕ) (t : List ℕ) → Type 0
Diagonal k t = (x y : ℕ) → x < 8 → y < 8 → Marked t x y ↔ ((x < k) × (x ≡ y))
