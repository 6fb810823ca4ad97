-- The table of document 01, "Chain and terms", as what it asks of grades. The grades that `grade_at` works out obey it, and no others do
-- (proofs/Table), so that a reader has to believe this page and not how they are worked out.
-- Assumes nothing.
use Rattle.std.specs.Prelude.{◌≡◌, ℕ, ◌≤◌, ◌<◌, length}
use Rattle.semantics.specs.Terms.{Term, name, not, and, or, some, all, top, bottom, term}
use Rattle.semantics.specs.Interpretations.{Grading, Interpretation}

-- x is the greatest, or the least, of f 0, .., f (n - 1)
abbrev pub Greatest : (f : ℕ → ℕ) (n x : ℕ) → Type 0
Greatest f n x = ((i : ℕ) × (i < n) × (f i ≡ x)) × ((i : ℕ) → i < n → f i ≤ x)

abbrev pub Least : (f : ℕ → ℕ) (n x : ℕ) → Type 0
Least f n x = ((i : ℕ) × (i < n) × (f i ≡ x)) × ((i : ℕ) → i < n → x ≤ f i)

module _ (G : Grading) where
  -- term i is t
  abbrev pub TermIs : ℕ → Term → Type 0
  TermIs i t = (i < length G.terms) × (term G.terms i ≡ t)

  -- The rows that go by the children's grades alone: v i p is the grade of term i at p, one of n elements or one of n candidates. With the base
  -- connectives these are "N − child", "the smaller", "the larger".
  pub record Follows (n : ℕ) (v : (term point : ℕ) → ℕ) : Type 0 where
    pub not_row : (i c : ℕ) → TermIs i (not c) → (p : ℕ) → p < n → v i p ≡ G.connectives.negation (v c p)
    pub and_row : (i c d : ℕ) → TermIs i (and c d) → (p : ℕ) → p < n → v i p ≡ G.connectives.conjunction (v c p) (v d p)
    pub or_row : (i c d : ℕ) → TermIs i (or c d) → (p : ℕ) → p < n → v i p ≡ G.connectives.disjunction (v c p) (v d p)
    pub top_row : (i : ℕ) → TermIs i top → (p : ℕ) → p < n → v i p ≡ G.steps
    pub bottom_row : (i : ℕ) → TermIs i bottom → (p : ℕ) → p < n → v i p ≡ 0

  -- all rows: v i e is the "grade at element e" of term i
  pub record Table (I : Interpretation) (v : (term element : ℕ) → ℕ) : Type 0 where
    pub follows : Follows I.size v
    -- "as the interpretation gives"
    pub name_row : (i a : ℕ) → TermIs i (name a) → (e : ℕ) → e < I.size → v i e ≡ I.names a e
    -- "greatest over all elements f of min(link(e,f), child at f)"
    pub some_row : (i r c : ℕ) → TermIs i (some r c) → (e : ℕ) → e < I.size
        → Greatest (λ f. G.connectives.conjunction (I.links r e f) (v c f)) I.size (v i e)
    -- "least over all f of max(N − link(e,f), child at f)"
    pub all_row : (i r c : ℕ) → TermIs i (all r c) → (e : ℕ) → e < I.size
        → Least (λ f. G.connectives.implication (I.links r e f) (v c f)) I.size (v i e)
