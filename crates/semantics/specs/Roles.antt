-- Roles under roles (role inclusions): pairs of a lower and an upper role, and which roles are reached from a role upward. Document 02, P1.
-- Assumes nothing.
use Rattle.std.specs.Prelude.{◌≡◌, ◌⊎◌, List, [], ◌∷◌, ℕ, zero, suc, ◌/◌, ◌%◌}
use Rattle.std.proofs.Math.Decide.{ℕ_discrete}
use Rattle.chain.specs.Decisions.{dec_and, dec_or}
use Rattle.chain.specs.Lists.{Mem, table, keep}

-- "pairs of lower and upper role"
pub record RolePair : Type 0 where
  pub lower : ℕ
  pub upper : ℕ

-- "reachable upward": s is r, or is reached from r through pairs. It is worked out pair by pair: a way that uses the first pair is cut at its first
-- and at its last use of it. By `upward_refl`, `-trans`, `-pair` and `-least` of proofs/Roles this is the least reflexive and transitive relation that has
-- the pairs.
abbrev pub Upward : List RolePair → (r s : ℕ) → Type 0
Upward [] r s = r ≡ s
Upward (q ∷ qs) r s = Upward qs r s ⊎ (Upward qs r q.lower × Upward qs q.upper s)

unfoldable pub upward? : (ps : List RolePair) (r s : ℕ) → Dec (Upward ps r s)
unfolding dec_and dec_or ℕ_discrete
upward? [] r s = ℕ_discrete r s
upward? (q ∷ qs) r s = dec_or (upward? qs r s) (dec_and (upward? qs r q.lower) (upward? qs q.upper s))

-- the same in n steps, each from the lower to the upper role of a pair (`upward-steps` of proofs/Roles)
abbrev pub Steps : List RolePair → (n r s : ℕ) → Type 0
Steps ps zero r s = r ≡ s
Steps ps (suc n) r s = (q : RolePair) × Mem q ps × (q.lower ≡ r) × Steps ps n q.upper s

-- ---- the role hierarchy

-- every pair of roles 0–7
unfoldable pub role_pairs : List RolePair
role_pairs = table (λ x. record { lower = x / 8; upper = x % 8 }) 64

-- each role under every role that is reached from it: the pairs, and those that follow from them
unfoldable pub hierarchy : List RolePair → List RolePair
hierarchy ps = keep (λ q. upward? ps q.lower q.upper) role_pairs

-- role t is above role r in a hierarchy
abbrev pub Above : List RolePair → (r t : ℕ) → Type 0
Above h r t = (q : RolePair) × Mem q h × ((q.lower ≡ r) × (q.upper ≡ t))
