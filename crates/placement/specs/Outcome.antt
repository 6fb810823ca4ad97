-- The placement of the individuals and the outcome of a book. Document 01, "Types and links": "Outcomes: 1 holds together; 2 the rules have a
-- model but none meets the claims; 3 the rules have none."
-- Assumes nothing.
use Rattle.std.specs.Prelude.{◌≡◌, List, [], ◌∷◌, ℕ, ◌≤◌, get_or}
use Rattle.std.proofs.Math.Option.{Option, none, some}
use Rattle.std.proofs.Math.Decide.{dec_le}
use Rattle.chain.specs.Decisions.{dec_and}
use Rattle.chain.specs.Lists.{Each, each?, index}
use Rattle.semantics.specs.Interpretations.{Grading, Interpretation}
use Rattle.semantics.specs.Books.{Book, MembershipClaim, LinkClaim, Claimed, claimed?, Mentions, individuals}
use Rattle.types.specs.Candidates.{grade_in}
use Rattle.types.specs.Links.{link}
use Rattle.elimination.specs.Survivors.{survivors_of}
use Rattle.elimination.specs.Listed.{types_in}
use Rattle.placement.specs.Dictionary.{seek}

-- the candidate at which a placement has individual j
abbrev pub seat : List ℕ → ℕ → ℕ
seat p j = get_or p j 0

-- a membership claim is met by a member at candidate c; a link claim with individual j at candidate s j
abbrev pub MembershipMet : Grading → ℕ → MembershipClaim → Type 0
MembershipMet G c q = Claimed q.sense q.grade (grade_in G c q.term)

abbrev pub LinkMet : Grading → (ℕ → ℕ) → LinkClaim → Type 0
LinkMet G s q = q.grade ≤ link G q.role (s q.source) (s q.target)

module _ (B : Book) where
  -- with individual j at candidate s j, a claim is met
  abbrev pub HoldsMembership : (ℕ → ℕ) → MembershipClaim → Type 0
  HoldsMembership s q = Each (λ j. MembershipMet B.grading (s j) q) q.members

  abbrev pub HoldsLink : (ℕ → ℕ) → LinkClaim → Type 0
  HoldsLink = LinkMet B.grading

  abbrev pub Holds : (ℕ → ℕ) → Type 0
  Holds s = Each (HoldsMembership s) B.memberships × Each (HoldsLink s) B.links

  -- a placement, a candidate for each individual, meets every claim
  abbrev pub HoldsAt : List ℕ → Type 0
  HoldsAt p = Holds (seat p)

  -- no claim mentions individual j
  abbrev pub Unmentioned : ℕ → Type 0
  Unmentioned j = Each (λ q. ¬ Mentions q j) B.memberships × Each (λ q. (¬ (q.source ≡ j)) × (¬ (q.target ≡ j))) B.links

  unfoldable pub holds? : (s : ℕ → ℕ) → Dec (Holds s)
  unfolding dec_and each? claimed? dec_le
  holds? s =
      dec_and (each? (λ q. each? (λ j. claimed? q.sense q.grade (grade_in B.grading (s j) q.term)) q.members) B.memberships)
      (each? (λ q. dec_le q.grade (link B.grading q.role (s q.source) (s q.target))) B.links)

  -- "the first in dictionary order, individual 0 leading", of the placements at the candidates in xs, ascending, that meet the claims; none where
  -- there is none. Rules play no part in it.
  unfoldable pub placement_among : (xs : List ℕ) → Option (List ℕ)
  unfolding seek
  placement_among xs = seek (λ p. holds? (seat p)) xs (individuals B)

  -- "the placement: .. every other placement at survivors that meets the claims comes later"
  unfoldable pub placement : Option (List ℕ)
  unfolding placement_among
  placement = placement_among (survivors_of B)

  abbrev pub outcome_of : List ℕ → Option (List ℕ) → ℕ
  outcome_of [] p = 3
  outcome_of (c ∷ cs) none = 2
  outcome_of (c ∷ cs) (some p) = 1

  unfoldable pub outcome : ℕ
  outcome = outcome_of (survivors_of B) placement

  -- "individuals sit as placed": the interpretation of the candidates in xs, with the individuals at those in p
  abbrev pub placed_among : (xs p : List ℕ) → Interpretation
  placed_among xs p = types_in B.grading xs (λ j. index xs (seat p j))

  -- of the listed types
  abbrev pub placed_types : List ℕ → Interpretation
  placed_types = placed_among (survivors_of B)

-- an interpretation with the individuals seated otherwise
abbrev pub seated_as : Interpretation → (ℕ → ℕ) → Interpretation
seated_as I at = record { size = I.size; names = I.names; links = I.links; element = at }
