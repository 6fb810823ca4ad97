-- The places of a book, by its bytes. Document 01, "Types and links", and document 02, P5, "A name may recur".
-- Assumes nothing.
use Rattle.std.specs.Prelude.{◌≡◌, ◌⊎◌, List, ℕ, ◌<◌}
use Rattle.std.proofs.Common.{inl, inr}
use Rattle.std.proofs.Math.Decide.{ℕ_discrete}
use Rattle.chain.specs.Decisions.{dec_and, dec_or, dec_not}
use Rattle.chain.specs.Search.{all?, First, first, rank}
use Rattle.sections.specs.Terms.{kind_at, a_at, term_count, SameName}
use Rattle.layout.specs.Layout.{sections_of, term_bytes}

module _ (b : List ℕ) where
  -- the bytes of its terms
  abbrev pub terms : List ℕ
  terms = term_bytes b (sections_of b)

  -- term i is "a distinct name number, at its first term": no term before it has the name
  abbrev pub FirstOfName : ℕ → Type 0
  FirstOfName i = (kind_at terms i ≡ 0) × ((j : ℕ) → j < i → ¬ SameName terms j i)

  -- "or a quantified term"
  abbrev pub QuantifiedAt : ℕ → Type 0
  QuantifiedAt i = (kind_at terms i ≡ 4) ⊎ (kind_at terms i ≡ 5)

  -- "A place is now a distinct name number, at its first term, or a quantified term."
  abbrev pub PlaceAt : ℕ → Type 0
  PlaceAt i = FirstOfName i ⊎ QuantifiedAt i

  unfoldable pub quantified_at? : (i : ℕ) → Dec (QuantifiedAt i)
  unfolding dec_or ℕ_discrete
  quantified_at? i = dec_or (ℕ_discrete (kind_at terms i) 4) (ℕ_discrete (kind_at terms i) 5)

  unfoldable pub place_at? : (i : ℕ) → Dec (PlaceAt i)
  unfolding quantified_at? dec_or dec_and dec_not all? ℕ_discrete
  place_at? i =
      dec_or (dec_and (ℕ_discrete (kind_at terms i) 0)
      (all? (λ j. dec_not (dec_and (ℕ_discrete (kind_at terms j) 0) (dec_and (ℕ_discrete (kind_at terms i) 0) (ℕ_discrete (a_at terms j) (a_at terms i))))) i))
      (quantified_at? i)

  -- how many of the terms before number i are places: the number of the place that term i is, "in term order .. from 0"
  unfoldable pub place_of : ℕ → ℕ
  place_of = rank place_at?

  -- ---- how many there are

  -- a term before number i has the name a
  abbrev pub Bears : (i a : ℕ) → Type 0
  Bears i a = (j : ℕ) × (j < i) × ((kind_at terms j ≡ 0) × (a_at terms j ≡ a))

  unfoldable pub bears? : (i a : ℕ) → Dec (Bears i a)
  unfolding first dec_and ℕ_discrete
  bears? i a = go (first (λ j. dec_and (ℕ_discrete (kind_at terms j) 0) (ℕ_discrete (a_at terms j) a)) i)
    where
      go : First (λ j. dec_and (ℕ_discrete (kind_at terms j) 0) (ℕ_discrete (a_at terms j) a)) i → Dec (Bears i a)
      go (inl w) = yes (w.0, w.1, w.2)
      go (inr f) = no (λ w. f w.0 w.1 w.2)

  -- the distinct name numbers, of 0 to 15, and the quantified terms
  unfoldable pub names_in : ℕ
  names_in = rank (bears? (term_count terms)) 16

  unfoldable pub quantified_in : ℕ
  quantified_in = rank quantified_at? (term_count terms)
