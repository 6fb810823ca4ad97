-- The claims' sections of a book, four bytes each. Membership claims: individual or set, term, sense, grade; link claims: role, from, to, grade.
-- What their bytes stand for, and checks 8 and 9. Document 01, "The book", and document 02, P2.
-- Assumes nothing.
use Rattle.std.proofs.Math.Logic.{ite}
use Rattle.std.specs.Prelude.{List, [], ◌∷◌, ℕ, ◌+◌, ◌*◌, ◌/◌, ◌≤◌, ◌<◌, length, get_or}
use Rattle.std.proofs.Math.Decide.{dec_lt, dec_le}
use Rattle.chain.specs.Decisions.{dec_and, dec_imp}
use Rattle.chain.specs.Search.{all?}
use Rattle.chain.specs.Lists.{table}
use Rattle.encoding.specs.Bits.{bits_of}
use Rattle.semantics.specs.Books.{Sense, at_least, at_most, MembershipClaim, LinkClaim}
use Rattle.claims.specs.declared.MembershipRecord.{MembershipRecord}
use Rattle.claims.specs.declared.LinkRecord.{LinkRecord}

-- ---- a claim's four bytes, the claim that they stand for, and what is asked of them

-- "sense 0 "at least" or 1 "at most""; "Senses 2 and 3 mean "at least" and "at most" for a set"
abbrev pub sense_of : ℕ → Sense
sense_of k = get_or (at_least ∷ at_most ∷ at_least ∷ at_most ∷ []) k at_most

-- whom the first byte names: an individual, or a set, and then it "has bit i set for individual i"
unfoldable pub members_of : (sense first : ℕ) → List ℕ
unfolding dec_lt bits_of
members_of k x = ite {C = List ℕ} (dec_lt k 2) (x ∷ []) (bits_of x)

abbrev pub membership_of : MembershipRecord → MembershipClaim
membership_of q = record { members = members_of q.sense q.named; term = q.term; sense = sense_of q.sense; grade = q.grade }

-- it is about an individual 0–7, or about a set, and one of n terms, in a sense that there is, with a grade of at most N
abbrev pub MembershipRight : (N n : ℕ) → MembershipRecord → Type 0
MembershipRight N n q = (q.sense < 2 → q.named < 8) × ((q.term < n) × ((q.sense < 4) × (q.grade ≤ N)))

unfoldable pub membership_right? : (N n : ℕ) (q : MembershipRecord) → Dec (MembershipRight N n q)
unfolding dec_and dec_imp dec_lt dec_le
membership_right? N n q =
    dec_and (dec_imp (dec_lt q.sense 2) (dec_lt q.named 8))
    (dec_and (dec_lt q.term n) (dec_and (dec_lt q.sense 4) (dec_le q.grade N)))

abbrev pub link_of : LinkRecord → LinkClaim
link_of q = record { role = q.role; source = q.source; target = q.target; grade = q.grade }

-- it is about a role 0–7 and individuals 0–7, with a grade of at most N
abbrev pub LinkRight : (N : ℕ) → LinkRecord → Type 0
LinkRight N q = (q.role < 8) × ((q.source < 8) × ((q.target < 8) × (q.grade ≤ N)))

unfoldable pub link_right? : (N : ℕ) (q : LinkRecord) → Dec (LinkRight N q)
unfolding dec_and dec_lt dec_le
link_right? N q = dec_and (dec_lt q.role 8) (dec_and (dec_lt q.source 8) (dec_and (dec_lt q.target 8) (dec_le q.grade N)))

-- ---- the sections

module _ (s : List ℕ) where
  abbrev pub claim_count : ℕ
  claim_count = length s / 4

  abbrev pub membership_record : ℕ → MembershipRecord
  membership_record i =
      record { named = get_or s (4 * i) 0; term = get_or s (4 * i + 1) 0; sense = get_or s (4 * i + 2) 0; grade = get_or s (4 * i + 3) 0 }

  abbrev pub membership_at : ℕ → MembershipClaim
  membership_at i = membership_of (membership_record i)

  unfoldable pub memberships_of : List MembershipClaim
  memberships_of = table membership_at claim_count

  -- "Is every membership claim within its ranges, grade at most N?"
  abbrev pub MembershipsRight : (N n : ℕ) → Type 0
  MembershipsRight N n = (i : ℕ) → i < claim_count → MembershipRight N n (membership_record i)

  unfoldable pub memberships_right? : (N n : ℕ) → Dec (MembershipsRight N n)
  unfolding all? membership_right?
  memberships_right? N n = all? (λ i. membership_right? N n (membership_record i)) claim_count

  abbrev pub link_record : ℕ → LinkRecord
  link_record i = record { role = get_or s (4 * i) 0; source = get_or s (4 * i + 1) 0; target = get_or s (4 * i + 2) 0; grade = get_or s (4 * i + 3) 0 }

  abbrev pub link_at : ℕ → LinkClaim
  link_at i = link_of (link_record i)

  unfoldable pub links_of : List LinkClaim
  links_of = table link_at claim_count

  -- "Every link claim?"
  abbrev pub LinksRight : (N : ℕ) → Type 0
  LinksRight N = (i : ℕ) → i < claim_count → LinkRight N (link_record i)

  unfoldable pub links_right? : (N : ℕ) → Dec (LinksRight N)
  unfolding all? link_right?
  links_right? N = all? (λ i. link_right? N (link_record i)) claim_count
