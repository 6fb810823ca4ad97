-- The membership claims "with its sets written out as single claims" (document 02, P2): each set in its place, its members ascending.
-- Assumes nothing.
use Rattle.std.proofs.Math.Logic.{ite}
use mathlib.Core.List.{List, [], ◌∷◌, ◌++◌, flat_map}
use Rattle.std.specs.Prelude.{ℕ, ◌-◌}
use Rattle.std.proofs.Math.Decide.{dec_lt}
use Rattle.encoding.specs.Bits.{bits_of}

-- the claim of the four bytes x, t, k, g: a single claim stays; of a set each member j gets its single claim, of the same term, sense and grade
abbrev pub claim_written : (x t k g : ℕ) → List ℕ
claim_written x t k g = ite {C = List ℕ} (dec_lt k 2) (x ∷ t ∷ k ∷ g ∷ []) (flat_map (λ j. j ∷ t ∷ (k - 2) ∷ g ∷ []) (bits_of x))

-- the claims of a section, one after another
unfoldable pub written_out : List ℕ → List ℕ
written_out (x ∷ t ∷ k ∷ g ∷ rest) = claim_written x t k g ++ written_out rest
written_out [] = []
written_out (x ∷ []) = []
written_out (x ∷ t ∷ []) = []
written_out (x ∷ t ∷ k ∷ []) = []
