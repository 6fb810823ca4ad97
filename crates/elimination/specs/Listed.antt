-- The listed types and their interpretation. Document 01, "Words of demand 3".
-- Assumes nothing.
use Rattle.std.proofs.Common.{⊎_elim}
use Rattle.std.specs.Prelude.{List, ℕ, ◌<◌, length, get_or}
use Rattle.semantics.specs.Interpretations.{Grading, Interpretation}
use Rattle.semantics.specs.Books.{Book, RuleModel}
use Rattle.types.specs.Candidates.{bearer, grade_in, HasType}
use Rattle.types.specs.Links.{link}

-- "Their interpretation has one element for each, its names graded as in the type (0 for a name that no term uses), and for each role the links
-- above": of the candidates in xs; the individuals sit as `seat` says
abbrev pub types_in : Grading → (xs : List ℕ) (seat : ℕ → ℕ) → Interpretation
types_in G xs seat = record {
  size = length xs;
  names = λ a e. ⊎_elim (λ u. grade_in G (get_or xs e 0) u.0) (λ _. 0) (bearer G.terms a);
  links = λ r e f. link G r (get_or xs e 0) (get_or xs f 0);
  element = seat;
}

-- an element has candidate c's type in some finite interpretation on the chain that meets the rules (and every pair)
abbrev pub Occurs : Book → (c : ℕ) → Type 0
Occurs B c = (I : Interpretation) × RuleModel B I × (e : ℕ) × (e < I.size) × HasType B.grading I e c
