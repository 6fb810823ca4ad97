-- What code keeps of the places: for each term the one that opens its place, its home.
-- Assumes nothing.
use Rattle.std.specs.Prelude.{◌≡◌, List, ℕ, ◌<◌, get_or, Option, Some, None}
use Rattle.std.proofs.Common.{⊎_elim}
use Rattle.chain.specs.Search.{first}
use Rattle.semantics.specs.Terms.{Term}
use Rattle.types.specs.Candidates.{named?, home}
use Rattle.sections.specs.Terms.{term_count, terms_of}

-- the list has the home of each term of the section s
abbrev pub HomesOf : (s homes : List ℕ) → Type 0
HomesOf s homes = (i : ℕ) → i < term_count s → get_or homes i 0 ≡ home (terms_of s) i

-- ---- on the way

-- the first of the terms before number i that has the name a
unfoldable pub note_of : (ts : List Term) (i a : ℕ) → Option ℕ
note_of ts i a = ⊎_elim (λ w. Some w.0) (λ _. None) (first (named? ts a) i)

-- the list has this of every name
abbrev pub Noted : (ts : List Term) (i : ℕ) (firsts : List (Option ℕ)) → Type 0
Noted ts i firsts = (a : ℕ) → a < 16 → get_or firsts a None ≡ note_of ts i a
