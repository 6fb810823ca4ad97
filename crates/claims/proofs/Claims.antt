-- Laws of the claims' sections.
-- Assumes nothing.
use mathlib.Core.Path.{◌≡◌, sym, ◌∙◌}
use mathlib.Core.Logic.{◌↔◌, if_pos, if_neg}
use mathlib.Core.List.{List, [], ◌∷◌, flat_map}
use Prim.Native.Nat.{ℕ, suc, ◌*◌, ◌≤◌, ◌<◌, max}
use native.Mathlib.Nat.{add-zero}
use native.Mathlib.Omega.{arith}
use native.Mathlib.Decide.{dec_lt}
use lib.ListN.{length}
use Rattle.chain.specs.Lists.{Mem, Each, highest, table}
use Rattle.chain.proofs.Lists.{mem_each, each-table, length-table, highest-each, highest-most}
use Rattle.chain.proofs.Blocks.{blocks_whole}
use Rattle.semantics.specs.Books.{MembershipClaim, LinkClaim, membership_individuals, link_individuals, link_roles}
use Rattle.encoding.specs.Bits.{Bit, bits_of}
use Rattle.encoding.proofs.Bits.{bits_mem}
use Rattle.claims.specs.Claims.{members_of, claim_count, membership_record, membership_at, memberships_of, MembershipsRight, link_at, links_of, LinkRight, LinksRight}
use Rattle.claims.specs.declared.LinkRecord.{LinkRecord}

-- ---- whom the first byte names

module _ (k x : ℕ) where
  pub members_one : k < 2 → members_of k x ≡ x ∷ []
  unfolding members_of
  members_one h = if_pos (dec_lt k 2) h (x ∷ []) (bits_of x)

  pub members-set : ¬ (k < 2) → members_of k x ≡ bits_of x
  unfolding members_of
  members-set n = if_neg (dec_lt k 2) n (x ∷ []) (bits_of x)

  -- of a set those whose bit is set
  pub set_mentions : ¬ (k < 2) → (j : ℕ) → Mem j (members_of k x) ↔ ((j < 8) × Bit x j)
  set_mentions n j = rw (members-set n) (bits_mem x j)

  pub members-below : (k < 2 → x < 8) → highest suc (members_of k x) ≤ 8
  unfolding highest
  members-below h = go (dec_lt k 2)
    where
      go : Dec (k < 2) → highest suc (members_of k x) ≤ 8
      go (yes l) = rw (members_one l) (omega (arith, h l))
      go (no n) = rw (members-set n) (highest-each suc (bits_of x) 8 (mem_each (bits_of x) (λ j m. omega (arith, ((bits_mem x j).0 m).0))))

-- ---- what the records come to

module _ (s : List ℕ) where
  pub memberships-each : (P : MembershipClaim → Type 0) → ((i : ℕ) → i < claim_count s → P (membership_at s i)) → Each P (memberships_of s)
  unfolding memberships_of
  memberships-each P = each-table P (membership_at s) (claim_count s)

  -- n claims, each written as its four bytes, are the section
  pub memberships-bytes : (f : ℕ → List ℕ) (n : ℕ) → length s ≡ 4 * n
      → ((i : ℕ) → i < claim_count s → let q = membership_record s i in f i ≡ q.named ∷ q.term ∷ q.sense ∷ q.grade ∷ [])
      → (flat_map (λ r. r) (table f (claim_count s)) ≡ s) × (length (memberships_of s) ≡ n)
  unfolding memberships_of table
  memberships-bytes f n e h =
      let w = blocks_whole (λ r. r) 4 n 0 f s (omega arith) e (λ i l. let w = h i l in cc (add-zero (4 * i))) in
      (w.0, length-table (membership_at s) (claim_count s) ∙ sym (length-table f (claim_count s)) ∙ w.1)

  pub links-bytes : (f : LinkClaim → List ℕ) (n : ℕ) → length s ≡ 4 * n
      → ((i : ℕ) → i < claim_count s → f (link_at s i) ≡ (link_at s i).role ∷ (link_at s i).source ∷ (link_at s i).target ∷ (link_at s i).grade ∷ [])
      → (flat_map f (links_of s) ≡ s) × (length (links_of s) ≡ n)
  unfolding links_of table
  links-bytes f n e h = blocks_whole f 4 n 0 (link_at s) s (omega arith) e (λ i l. let w = h i l in cc (add-zero (4 * i)))

-- claims within their ranges are about at most 8 individuals
pub individuals_few : (N n : ℕ) (ms ls : List ℕ) → MembershipsRight ms N n → LinksRight ls N
    → max (highest membership_individuals (memberships_of ms)) (highest link_individuals (links_of ls)) ≤ 8
unfolding memberships_of links_of
individuals_few N n ms ls m k = omega (
  arith,
  highest-most membership_individuals (membership_at ms) (claim_count ms) 8 (λ i l. members-below _ _ (m i l).0),
  highest-most link_individuals (link_at ls) (claim_count ls) 8 (λ i l. omega (arith, (k i l).1.0, (k i l).1.1.0)),
)

-- .. and link claims about at most 8 roles
pub link_roles-few : (N : ℕ) (ls : List ℕ) → LinksRight ls N → highest link_roles (links_of ls) ≤ 8
unfolding links_of
link_roles-few N ls k = highest-most link_roles (link_at ls) (claim_count ls) 8 (λ i l. omega (arith, (k i l).0))

-- a link claim may have the highest grade
pub link_right-highest : (N : ℕ) (q : LinkRecord) → q.role < 8 → q.source < 8 → q.target < 8 → q.grade ≡ N → LinkRight N q
link_right-highest N q r s t e = (r, (s, (t, omega arith)))
