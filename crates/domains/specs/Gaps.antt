-- Gaps: a cell of the table that is neither 0 nor 1 says how far the next candidate that the individual may have is at least.
-- Assumes nothing.
use Rattle.std.specs.Prelude.{◌≡◌, ◌↔◌, List, ℕ, ◌+◌, ◌*◌, ◌≤◌, ◌<◌, get_or}
use Rattle.domains.specs.Tables.{Allowed}

-- the cell of individual j and candidate c
abbrev pub gap_at : (table : List ℕ) (j c : ℕ) → ℕ
gap_at table j c = get_or table (16384 * j + c) 0

-- where it is at least 2, individual j may have none of so many candidates less one, from c on
abbrev pub GapAt : (table : List ℕ) (j c : ℕ) → Type 0
GapAt table j c = (e : ℕ) → c ≤ e → e + 1 < c + gap_at table j c → ¬ Allowed table j e

-- so it is for candidates from c on and below count
abbrev pub GapsFrom : (table : List ℕ) (j c count : ℕ) → Type 0
GapsFrom table j c count = (d : ℕ) → c ≤ d → d < count → GapAt table j d

-- of g candidates from c on, a byte's number, j may have none; and where g is 0, it may have c
abbrev pub Leap : (table : List ℕ) (j c g : ℕ) → Type 0
Leap table j c g = (g ≡ 0 → Allowed table j c) × ((e : ℕ) → c ≤ e → e < c + g → ¬ Allowed table j e) × (g < 256)

-- and for n individuals
abbrev pub Gaps : (table : List ℕ) (n count : ℕ) → Type 0
Gaps table n count = (j : ℕ) → j < n → GapsFrom table j 0 count

-- each may have what it might
abbrev pub SameAllowed : (old new : List ℕ) → Type 0
SameAllowed old new = (x : ℕ) → (get_or new x 0 ≡ 1) ↔ (get_or old x 0 ≡ 1)

-- on the way: from c on the gaps of j are noted, those of the others are as they were, and of the g candidates from c on j may have none
pub record Noting (j c g count : ℕ) (old new : List ℕ) : Type 0 where
  pub same : SameAllowed old new
  pub others : (i d : ℕ) → ¬ (i ≡ j) → d < 16384 → gap_at new i d ≡ gap_at old i d
  pub gap : (e : ℕ) → c ≤ e → e < c + g → ¬ Allowed new j e
  pub noted : GapsFrom new j c count

-- the gaps of j are noted
abbrev pub NotedAll : (j count : ℕ) (old new : List ℕ) → Type 0
NotedAll j count = Noting j 0 0 count
