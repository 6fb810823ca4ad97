-- Books (knowledge bases): rules (concept inclusions), pairs of roles (role inclusions), membership claims (concept assertions), link claims (role
-- assertions), and when an interpretation meets them. Document 01, "The book", and document 02, P1 and P2.
-- Assumes nothing.
use Rattle.std.specs.Prelude.{◌≡◌, List, ℕ, suc, ◌≤◌, ◌<◌, max, length}
use Rattle.std.proofs.Math.Decide.{dec_le}
use Rattle.chain.specs.Lists.{Mem, Each, highest}
use Rattle.semantics.specs.Terms.{Term, name, not, and, or, some, all, top, bottom}
use Rattle.semantics.specs.Roles.{RolePair, hierarchy}
use Rattle.semantics.specs.Interpretations.{Grading, WellFormed, Interpretation, OnChain, grade_at}

-- two terms
pub record Rule : Type 0 where
  pub left : ℕ
  pub right : ℕ

-- a claim's sense: the grade is at least, or at most, the grade claimed
pub data Sense : Type 0 where
  at_least at_most : Sense

abbrev pub Claimed : Sense → (claimed actual : ℕ) → Type 0
Claimed at_least g x = g ≤ x
Claimed at_most g x = x ≤ g

unfoldable pub claimed? : (s : Sense) (g x : ℕ) → Dec (Claimed s g x)
unfolding dec_le
claimed? at_least g x = dec_le g x
claimed? at_most g x = dec_le x g

-- about the individuals that it names, its members: one, or those of a set
pub record MembershipClaim : Type 0 where
  pub members : List ℕ
  pub term : ℕ
  pub sense : Sense
  pub grade : ℕ

-- of the sense "at least"
pub record LinkClaim : Type 0 where
  pub role : ℕ
  pub source : ℕ
  pub target : ℕ
  pub grade : ℕ

pub record Book : Type 0 where
  pub grading : Grading
  pub rules : List Rule
  pub pairs : List RolePair
  pub memberships : List MembershipClaim
  pub links : List LinkClaim

-- ---- the individuals: "0 up to the highest one claimed; without claims there are none"

-- a claim mentions an individual
abbrev pub Mentions : MembershipClaim → ℕ → Type 0
Mentions q j = Mem j q.members

-- one more than the highest individual of a claim
abbrev pub membership_individuals : MembershipClaim → ℕ
membership_individuals q = highest suc q.members

abbrev pub link_individuals : LinkClaim → ℕ
link_individuals q = max (suc q.source) (suc q.target)

-- their number: one more than the highest of all claims
unfoldable pub individuals : Book → ℕ
individuals B = max (highest membership_individuals B.memberships) (highest link_individuals B.links)

-- ---- names and roles: "each one more than the highest such number in the book (in terms and claims), or 0"

abbrev pub name_above : Term → ℕ
name_above (name a) = suc a
name_above (not c) = 0
name_above (and c d) = 0
name_above (or c d) = 0
name_above (some r c) = 0
name_above (all r c) = 0
name_above top = 0
name_above bottom = 0

abbrev pub role_above : Term → ℕ
role_above (name a) = 0
role_above (not c) = 0
role_above (and c d) = 0
role_above (or c d) = 0
role_above (some r c) = suc r
role_above (all r c) = suc r
role_above top = 0
role_above bottom = 0

abbrev pub link_roles : LinkClaim → ℕ
link_roles q = suc q.role

-- "Roles in pairs count towards R."
abbrev pub pair_roles : RolePair → ℕ
pair_roles q = max (suc q.lower) (suc q.upper)

unfoldable pub name_count : Book → ℕ
name_count B = highest name_above B.grading.terms

unfoldable pub role_count : Book → ℕ
role_count B = max (max (highest role_above B.grading.terms) (highest link_roles B.links)) (highest pair_roles B.pairs)

-- ---- what the checks 6 to 9 and 22 establish, as far as the theory asks it

abbrev pub RuleInRange : Grading → Rule → Type 0
RuleInRange G q = (q.left < length G.terms) × (q.right < length G.terms)

abbrev pub TermInRange : Grading → MembershipClaim → Type 0
TermInRange G q = q.term < length G.terms

abbrev pub RolesInRange : RolePair → Type 0
RolesInRange q = pair_roles q ≤ 8

pub record Valid (B : Book) : Type 0 where
  pub well_formed : WellFormed B.grading
  pub rules_in : Each (RuleInRange B.grading) B.rules
  pub pairs_in : Each RolesInRange B.pairs
  pub terms_in_range : Each (TermInRange B.grading) B.memberships
  -- the hierarchy by which links are worked out is that of the book's pairs
  pub ranked : B.grading.above ≡ hierarchy B.pairs

-- ---- met

module _ (G : Grading) (I : Interpretation) where
  -- "A rule is met when left is not greater than right at every element."
  abbrev pub MeetsRule : Rule → Type 0
  MeetsRule q = (e : ℕ) → e < I.size → grade_at G I q.left e ≤ grade_at G I q.right e

  -- "A membership claim is met when its term's grade at its individual's element is at least, or at most, the grade claimed"
  abbrev pub MemberMeets : MembershipClaim → (individual : ℕ) → Type 0
  MemberMeets q j = Claimed q.sense q.grade (grade_at G I q.term (I.element j))

  -- "the claim holds when each member meets it" (document 02, P2)
  abbrev pub MeetsMembership : MembershipClaim → Type 0
  MeetsMembership q = Each (MemberMeets q) q.members

-- "a link claim when the role's link from the one's element to the other's is at least the grade claimed"
abbrev pub MeetsLink : Interpretation → LinkClaim → Type 0
MeetsLink I q = q.grade ≤ I.links q.role (I.element q.source) (I.element q.target)

-- "An interpretation meets a pair when the lower role's link never exceeds the upper's."
abbrev pub MeetsPair : Interpretation → RolePair → Type 0
MeetsPair I q = (e f : ℕ) → e < I.size → f < I.size → I.links q.lower e f ≤ I.links q.upper e f

-- "A model of the rules is a finite interpretation on the book's chain that meets every rule." "The verdict, list and later questions cover only
-- interpretations that meet every pair."
pub record RuleModel (B : Book) (I : Interpretation) : Type 0 where
  pub on_chain : OnChain B.grading.steps I
  pub rules_met : Each (MeetsRule B.grading I) B.rules
  pub pairs_met : Each (MeetsPair I) B.pairs

pub record MeetsClaims (B : Book) (I : Interpretation) : Type 0 where
  pub memberships_met : Each (MeetsMembership B.grading I) B.memberships
  pub links_met : Each (MeetsLink I) B.links

-- the rules have a model
abbrev pub RulesSatisfiable : Book → Type 0
RulesSatisfiable B = (I : Interpretation) × RuleModel B I

-- some finite non-empty interpretation on the chain meets every rule, every pair and every claim
abbrev pub Satisfiable : Book → Type 0
Satisfiable B = (I : Interpretation) × RuleModel B I × MeetsClaims B I
