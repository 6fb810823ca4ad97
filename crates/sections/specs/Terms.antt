-- The terms' section of a book: "A term is three bytes: kind, a, b". What its bytes stand for, and when they are as described (check 6).
-- Assumes nothing.
use Rattle.std.specs.Prelude.{◌≡◌, List, [], ◌∷◌, ℕ, ◌+◌, ◌*◌, ◌/◌, ◌<◌, length, get_or}
use Rattle.std.proofs.Math.Decide.{dec_lt}
use Rattle.chain.specs.Decisions.{dec_and}
use Rattle.chain.specs.Search.{all?}
use Rattle.chain.specs.Lists.{table}
use Rattle.chain.specs.Connectives.{Quantifier, existential, universal}
use Rattle.semantics.specs.Terms.{Term, name, not, and, or, some, all, top, bottom}

-- kinds 0 to 7, in the order of the table
abbrev pub term_of : (kind a b : ℕ) → Term
term_of kind a b = get_or (name a ∷ not a ∷ and a b ∷ or a b ∷ some a b ∷ all a b ∷ top ∷ bottom ∷ []) kind bottom

-- the quantifier of a quantified term, by its kind: 4 is "some", 5 is "all"
abbrev pub quantifier_of : ℕ → Quantifier
quantifier_of kind = get_or (existential ∷ existential ∷ existential ∷ existential ∷ existential ∷ []) kind universal

-- ---- as described

-- The table by its columns, for the kinds 0 to 7 of term i: what a and b are below. "name number 0–15", "role 0–7", "A child is a term number below
-- the term's own"; a byte that the table shows as 0 is below 1. There is no kind 8: nothing is below 0.
abbrev pub a_below : (i kind : ℕ) → ℕ
a_below i kind = get_or (16 ∷ i ∷ i ∷ i ∷ 8 ∷ 8 ∷ 1 ∷ 1 ∷ []) kind 0

abbrev pub b_below : (i kind : ℕ) → ℕ
b_below i kind = get_or (1 ∷ 1 ∷ i ∷ i ∷ i ∷ i ∷ 1 ∷ 1 ∷ []) kind 0

-- term i is as described
abbrev pub Described : (i kind a b : ℕ) → Type 0
Described i kind a b = (a < a_below i kind) × (b < b_below i kind)

unfoldable pub described? : (i kind a b : ℕ) → Dec (Described i kind a b)
unfolding dec_and dec_lt
described? i kind a b = dec_and (dec_lt a (a_below i kind)) (dec_lt b (b_below i kind))

-- ---- the section

module _ (s : List ℕ) where
  abbrev pub kind_at : ℕ → ℕ
  kind_at i = get_or s (3 * i) 0

  abbrev pub a_at : ℕ → ℕ
  a_at i = get_or s (3 * i + 1) 0

  abbrev pub b_at : ℕ → ℕ
  b_at i = get_or s (3 * i + 2) 0

  abbrev pub term_count : ℕ
  term_count = length s / 3

  abbrev pub term_at : ℕ → Term
  term_at i = term_of (kind_at i) (a_at i) (b_at i)

  unfoldable pub terms_of : List Term
  terms_of = table term_at term_count

  -- terms i and j are names, of one number
  abbrev pub SameName : ℕ → ℕ → Type 0
  SameName i j = (kind_at i ≡ 0) × ((kind_at j ≡ 0) × (a_at i ≡ a_at j))

  -- term i is as described. A name may recur: "Check 6 no longer objects." (document 02, P5)
  abbrev pub TermRight : ℕ → Type 0
  TermRight i = Described i (kind_at i) (a_at i) (b_at i)

  -- "Is every term as described?"
  abbrev pub TermsRight : Type 0
  TermsRight = (i : ℕ) → i < term_count → TermRight i

  unfoldable pub terms_right? : Dec TermsRight
  unfolding all? described?
  terms_right? = all? (λ i. described? i (kind_at i) (a_at i) (b_at i)) term_count
