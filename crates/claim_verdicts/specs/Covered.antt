-- When a claim is met, by the terms' grades at elements, and what there must be for claims to be judged by bytes.
-- Assumes nothing.
use Rattle.std.specs.Prelude.{List, ℕ, ◌*◌, ◌≤◌, ◌<◌, length}
use Rattle.chain.specs.Lists.{Each}
use Rattle.semantics.specs.Books.{MembershipClaim, LinkClaim, Claimed, Mentions, membership_individuals, link_individuals, link_roles}
use Rattle.claims.specs.Claims.{claim_count, membership_at, link_at}

-- individual j meets the claim, by the terms' grades at the individuals' elements; it does, if the claim mentions it; each member does
module _ (grade : (term element : ℕ) → ℕ) (element : (individual : ℕ) → ℕ) (q : MembershipClaim) where
  abbrev pub MeetsMember : (j : ℕ) → Type 0
  MeetsMember j = Claimed q.sense q.grade (grade q.term (element j))

  abbrev pub MeetsIfMentioned : (j : ℕ) → Type 0
  MeetsIfMentioned j = Mentions q j → MeetsMember j

  abbrev pub MembersMeet : Type 0
  MembersMeet = Each MeetsMember q.members

-- ---- what there must be

-- one of the 64 columns for a membership claim's term, and elements for its individuals
abbrev pub MembershipCovered : List ℕ → MembershipClaim → Type 0
MembershipCovered js q = (q.term < 64) × (membership_individuals q ≤ length js)

-- n rows of n for a link claim's role, and elements for its individuals
abbrev pub LinkCovered : (n : ℕ) (ls js : List ℕ) → LinkClaim → Type 0
LinkCovered n ls js q = (link_roles q * (n * n) ≤ length ls) × (link_individuals q ≤ length js)

abbrev pub MembershipsCovered : (js ms : List ℕ) → Type 0
MembershipsCovered js ms = (i : ℕ) → i < claim_count ms → MembershipCovered js (membership_at ms i)

abbrev pub LinksCovered : (n : ℕ) (ls js qs : List ℕ) → Type 0
LinksCovered n ls js qs = (i : ℕ) → i < claim_count qs → LinkCovered n ls js (link_at qs i)
