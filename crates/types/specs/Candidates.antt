-- Places, candidates and types. Document 01, "Types and links": a candidate's digits are the grades of the places, and "the other terms'
-- grades follow".
-- Assumes nothing.
use Rattle.std.specs.Prelude.{◌≡◌, List, ℕ, ◌+◌, ◌^◌, ◌<◌, length}
use Rattle.std.proofs.Common.{⊎_elim}
use Rattle.std.proofs.Math.Decide.{ℕ_discrete}
use Rattle.chain.specs.Decisions.{dec_not}
use Rattle.chain.specs.Search.{all?, First, first, rank, select}
use Rattle.chain.specs.Digits.{digit, encode}
use Rattle.semantics.specs.Terms.{Term, Term-discrete, name, not, and, or, some, all, top, bottom, term, Carrier, value}
use Rattle.semantics.specs.Interpretations.{Grading, Interpretation, grade_at}

-- ---- places: the names and the quantified terms

pub data Place : Type 0 where
  named : ℕ → Place
  quantifying follows : Place

abbrev pub place : Term → Place
place (name a) = named a
place (not c) = follows
place (and c d) = follows
place (or c d) = follows
place (some r c) = quantifying
place (all r c) = quantifying
place top = follows
place bottom = follows

-- a name or a quantified term has a place
abbrev pub HasPlace : Place → Type 0
HasPlace (named a) = Unit {0}
HasPlace quantifying = Unit {0}
HasPlace follows = ⊥

module _ (ts : List Term) where
  unfoldable pub named? : (a i : ℕ) → Dec (term ts i ≡ name a)
  unfolding ℕ_discrete
  named? a i = Term-discrete ℕ_discrete (term ts i) (name a)

  -- the first term with the name a
  unfoldable pub bearer : (a : ℕ) → First (named? a) (length ts)
  unfolding named?
  bearer a = first (named? a) (length ts)

  -- Term i opens a place: "A place is now a distinct name number, at its first term, or a quantified term." (document 02, P5). So terms with one name
  -- have one place, and one grade in every type.
  abbrev pub OpensAs : ℕ → Place → Type 0
  OpensAs i (named a) = (j : ℕ) → j < i → ¬ (term ts j ≡ name a)
  OpensAs i quantifying = Unit {0}
  OpensAs i follows = ⊥

  abbrev pub Opens : ℕ → Type 0
  Opens i = OpensAs i (place (term ts i))

  unfoldable pub opens_as? : (i : ℕ) (p : Place) → Dec (OpensAs i p)
  unfolding dec_not all? named?
  opens_as? i (named a) = all? (λ j. dec_not (named? a j)) i
  opens_as? i quantifying = yes tt
  opens_as? i follows = no (λ z. z)

  unfoldable pub opens? : (i : ℕ) → Dec (Opens i)
  unfolding opens_as?
  opens? i = opens_as? i (place (term ts i))

  -- k, the number of places
  unfoldable pub places : ℕ
  places = rank opens? (length ts)

  -- the term that opens the place of term i; its own number where it has no place
  unfoldable pub home_as : ℕ → Place → ℕ
  home_as i (named a) = ⊎_elim (λ w. w.0) (λ _. i) (bearer a)
  home_as i quantifying = i
  home_as i follows = i

  unfoldable pub home : ℕ → ℕ
  home i = home_as i (place (term ts i))

  -- the number of term i's place, "in term order, i from 0"
  unfoldable pub place_number : ℕ → ℕ
  place_number i = rank opens? (home i)

-- ---- candidates

module _ (G : Grading) where
  abbrev pub base : ℕ
  base = G.steps + 1

  -- how many there are: "candidates are 0 to (N+1)^k − 1"
  unfoldable pub candidates : ℕ
  candidates = base ^ places G.terms

  -- "the grade of the i-th place .. is digit i in base N+1, lowest first", and the other terms' grades follow as in the table
  abbrev pub in_candidate : ℕ → Carrier ℕ
  in_candidate c = record {
    at_name = λ i a. digit base (place_number G.terms i) c;
    at_not = G.connectives.negation;
    at_and = G.connectives.conjunction;
    at_or = G.connectives.disjunction;
    at_some = λ i r x. digit base (place_number G.terms i) c;
    at_all = λ i r x. digit base (place_number G.terms i) c;
    at_top = G.steps;
    at_bottom = 0;
  }

  -- the grade of term i in candidate c: "a candidate's type is its grades for all terms"
  unfoldable pub grade_in : (c i : ℕ) → ℕ
  grade_in c = value (in_candidate c) G.terms

-- element e has candidate c's type: "an element has the type made of all terms' grades there"
abbrev pub HasType : Grading → Interpretation → (e c : ℕ) → Type 0
HasType G I e c = (i : ℕ) → i < length G.terms → grade_at G I i e ≡ grade_in G c i

-- the grade at element e of the term that opens place s
abbrev pub place_grade : Grading → Interpretation → (e s : ℕ) → ℕ
place_grade G I e s = grade_at G I (select (opens? G.terms) (length G.terms) s) e

-- the candidate whose type element e has: its digits are the grades of the places there
unfoldable pub type_of : Grading → Interpretation → ℕ → ℕ
type_of G I e = encode (base G) (places G.terms) (place_grade G I e)
