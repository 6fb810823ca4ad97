-- The filter: the candidates that each individual may have by the claims that mention it alone; and the rows of slots of the marked candidates,
-- which are made on the way, since a membership claim may be about a term of which those have no grade.
-- Assumes nothing.
use Rattle.std.specs.Prelude.{◌≡◌, ◌↔◌, Bool, true, false, List, ℕ, ◌+◌, ◌*◌, ◌≤◌, ◌<◌, get_or, take}
use Rattle.semantics.specs.Books.{Claimed, Mentions}
use Rattle.types.specs.Candidates.{grade_in}
use Rattle.sections.specs.Terms.{term_count, terms_of, TermsRight}
use Rattle.claims.specs.Claims.{claim_count, membership_at, MembershipsRight}
use Rattle.gradings.specs.Gradings.{grading}
use Rattle.gradings.specs.declared.Logic.{Logic}
use Rattle.slots.specs.Slots.{SlotsOf}
use Rattle.slots.specs.Rows.{SlotRow}
use Rattle.elimination.specs.Marks.{Marked}
use Rattle.levels.specs.Rows.{row_at}
use Rattle.network.specs.declared.Constraint.{Constraint}
use Rattle.network.specs.Constraints.{AllMet}
use Rattle.network.specs.Network.{between}
use Rattle.domains.specs.Tables.{Allowed}

-- what it asks of the sections: they are right, and the slots are the quantified terms
pub record Task (l : Logic) (ts slots ms : List ℕ) : Type 0 where
  pub terms_right : TermsRight ts
  pub few_terms : term_count ts ≤ 64
  pub slots_are : SlotsOf (terms_of ts) slots
  pub memberships_right : MembershipsRight ms l.steps (term_count ts)

-- ---- by the grades of a candidate

-- the membership claims are about terms below n
abbrev pub ClaimsBelow : (ms : List ℕ) (n : ℕ) → Type 0
ClaimsBelow ms n = (i : ℕ) → i < claim_count ms → (membership_at ms i).term < n

-- the grades that f gives of the terms meet membership claim i, if this mentions individual j
abbrev pub MembershipBy : (ms : List ℕ) (j : ℕ) (f : ℕ → ℕ) (i : ℕ) → Type 0
MembershipBy ms j f i =
    Mentions (membership_at ms i) j → Claimed (membership_at ms i).sense (membership_at ms i).grade (f (membership_at ms i).term)

-- they meet every membership claim that mentions j
abbrev pub MembershipsBy : (ms : List ℕ) (j : ℕ) (f : ℕ → ℕ) → Type 0
MembershipsBy ms j f = (i : ℕ) → i < claim_count ms → MembershipBy ms j f i

-- ---- which of eight individuals are left

-- those below n were struck, where they are as P says
pub record Struck (P : ℕ → Type 0) (n : ℕ) (old new : List Bool) : Type 0 where
  pub left : (j : ℕ) → j < 8 → (get_or new j false ≡ true) ↔ ((get_or old j false ≡ true) × (j < n → ¬ P j))

-- left are those whose claims the grades meet
abbrev pub Fits : (ms : List ℕ) (f : ℕ → ℕ) (fits : List Bool) → Type 0
Fits ms f fits = (j : ℕ) → j < 8 → (get_or fits j false ≡ true) ↔ MembershipsBy ms j f

-- and the row of slots meets every constraint from j to itself
abbrev pub Admits : Logic → (ms : List ℕ) (net : List Constraint) (ends : List ℕ) (j : ℕ) (f : ℕ → ℕ) (row : List ℕ) → Type 0
Admits l ms net ends j f row = MembershipsBy ms j f × AllMet l (between net ends j j) row row

-- the grades of candidate c
abbrev pub grades_of : Logic → (ts : List ℕ) (c : ℕ) → ℕ → ℕ
grades_of l ts c = grade_in (grading l (terms_of ts)) c

-- ---- the rows and the table

-- as before but for the candidate c, of these grades and this row, which individuals below k may have exactly where they admit it
pub record Column (l : Logic) (ms : List ℕ) (net : List Constraint) (ends : List ℕ) (f : ℕ → ℕ) (row : List ℕ) (k c : ℕ) (old new : List ℕ) : Type 0 where
  pub here : (j : ℕ) → j < k → Allowed new j c ↔ Admits l ms net ends j f row
  pub elsewhere : (j d : ℕ) → d < 16384 → ¬ (d ≡ c) → get_or new (16384 * j + d) 0 ≡ get_or old (16384 * j + d) 0

module _ (l : Logic) (ts slots ms : List ℕ) (net : List Constraint) (ends : List ℕ) where
  -- candidate c is entered, for n individuals; the rows before its own stay
  pub record Entered (n c : ℕ) (rows rows' table table' : List ℕ) : Type 0 where
    pub before : take (32 * c) rows' ≡ take (32 * c) rows
    pub row : SlotRow slots (grades_of l ts c) (row_at rows' c)
    pub column : Column l ms net ends (grades_of l ts c) (row_at rows' c) n c table table'

  -- the marked candidates below k have their rows; and of the individuals below n, each may have exactly those of them that it admits
  pub record Filtered (marks : List ℕ) (n k : ℕ) (rows table : List ℕ) : Type 0 where
    pub rowed : (c : ℕ) → c < k → Marked marks c → SlotRow slots (grades_of l ts c) (row_at rows c)
    pub allowed : (j c : ℕ) → j < n → c < 16384
        → Allowed table j c ↔ ((c < k) × Marked marks c × Admits l ms net ends j (grades_of l ts c) (row_at rows c))
