-- Marks. Document 01, "Types and links": "It sets one mark byte per candidate (1 survivor, 0 not)"; "mark byte c is candidate c's".
-- Assumes nothing.
use Rattle.std.specs.Prelude.{◌≡◌, List, ℕ, get_or}
use Rattle.std.proofs.Math.Logic.{ite}
use Rattle.std.proofs.Math.Decide.{ℕ_discrete}
use Rattle.chain.specs.Lists.{any?, table, from, keep}

-- the mark bytes of the candidates in xs, n of them
unfoldable pub marks_of : List ℕ → ℕ → List ℕ
unfolding any? ℕ_discrete
marks_of xs n = table (λ c. ite (any? (ℕ_discrete c) xs) 1 0) n

-- candidate c is marked
abbrev pub Marked : List ℕ → ℕ → Type 0
Marked marks c = get_or marks c 0 ≡ 1

abbrev pub marked? : (marks : List ℕ) (c : ℕ) → Dec (Marked marks c)
marked? marks c = ℕ_discrete (get_or marks c 0) 1

-- the candidates below n that are marked, ascending
unfoldable pub marked : List ℕ → ℕ → List ℕ
unfolding keep from ℕ_discrete
marked marks n = keep (marked? marks) (from 0 n)
