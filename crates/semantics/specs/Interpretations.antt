-- Interpretations of every finite size, and the grade of a term at an element: the table of document 01, "Chain and terms".
-- Assumes nothing.
use Rattle.std.specs.Prelude.{◌≡◌, List, ℕ, ◌≤◌, ◌<◌}
use Rattle.chain.specs.Connectives.{Connectives, Lawful, zadeh, existential, universal, over}
use Rattle.semantics.specs.Terms.{Term, Ordered, Carrier, value}
use Rattle.semantics.specs.Roles.{RolePair, hierarchy}

-- what grades and links are worked out from: the chain 0..steps, its connectives, the terms, and the hierarchy of the roles
pub record Grading : Type 0 where
  pub steps : ℕ
  pub connectives : Connectives
  pub terms : List Term
  pub above : List RolePair

-- with the base connectives, and the hierarchy of the pairs ps
abbrev pub graded : ℕ → List Term → (ps : List RolePair) → Grading
graded N ts ps = record { steps = N; connectives = zadeh N; terms = ts; above = hierarchy ps }

-- what check 6 establishes of the terms, and what every instance of the connectives is shown to be
pub record WellFormed (G : Grading) : Type 0 where
  pub lawful : Lawful G.steps G.connectives
  pub ordered : Ordered G.terms

-- "An interpretation has one element or more, a grade for each name at each element, a link grade for each role and ordered pair, and an
-- element for each individual. Two individuals may share an element." Its elements are the numbers below its size.
pub record Interpretation : Type 0 where
  pub size : ℕ
  pub names : (name element : ℕ) → ℕ
  pub links : (role source target : ℕ) → ℕ
  pub element : (individual : ℕ) → ℕ

-- it has an element, its grades are on the chain 0..N, and its individuals are elements
pub record OnChain (N : ℕ) (I : Interpretation) : Type 0 where
  pub inhabited : 0 < I.size
  pub names_le : (a e : ℕ) → e < I.size → I.names a e ≤ N
  pub links_le : (r e f : ℕ) → e < I.size → f < I.size → I.links r e f ≤ N
  pub element_lt : (j : ℕ) → I.element j < I.size

-- what M says of A names, R roles and I individuals, K says too
pub record Agree (A R I : ℕ) (M K : Interpretation) : Type 0 where
  pub size_same : K.size ≡ M.size
  pub names_same : (a e : ℕ) → a < A → e < M.size → K.names a e ≡ M.names a e
  pub links_same : (r e f : ℕ) → r < R → e < M.size → f < M.size → K.links r e f ≡ M.links r e f
  pub element_same : (j : ℕ) → j < I → K.element j ≡ M.element j

module _ (G : Grading) (I : Interpretation) where
  -- the table, "grade at element e", kind by kind
  abbrev pub at_elements : Carrier (ℕ → ℕ)
  at_elements = record {
    at_name = λ i a e. I.names a e;
    at_not = λ x e. G.connectives.negation (x e);
    at_and = λ x y e. G.connectives.conjunction (x e) (y e);
    at_or = λ x y e. G.connectives.disjunction (x e) (y e);
    at_some = λ i r x e. over existential G.steps (λ f. G.connectives.conjunction (I.links r e f) (x f)) I.size;
    at_all = λ i r x e. over universal G.steps (λ f. G.connectives.implication (I.links r e f) (x f)) I.size;
    at_top = λ e. G.steps;
    at_bottom = λ e. 0;
  }

  -- the grade of term i at element e
  unfoldable pub grade_at : (i e : ℕ) → ℕ
  grade_at = value at_elements G.terms
