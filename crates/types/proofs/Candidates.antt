-- Laws of places, candidates and types: a candidate's grades, that no two candidates share a type, and that each element has just one.
-- Assumes nothing.
use mathlib.Core.Path.{◌≡◌, refl, sym, ap, subst, ◌∙◌}
use mathlib.Core.Logic.{◌⊎◌, inl, inr, ⊎_elim, ◌↔◌}
use mathlib.Core.List.{List}
use Prim.Native.Nat.{ℕ, ◌≤◌, ◌<◌}
use native.Mathlib.Omega.{arith}
use lib.ListN.{length}
use Rattle.chain.specs.Search.{First, rank}
use Rattle.chain.specs.Digits.{digit}
use Rattle.chain.proofs.Search.{strong, rank_lt, rank-onto, select-rank, select_lt}
use Rattle.chain.proofs.Digits.{digit_lt, encode_lt, digit-encode, digits_inj}
use Rattle.semantics.specs.Terms.{Term, name, not, and, or, some, all, top, bottom, term, Children, local}
use Rattle.semantics.specs.Interpretations.{Grading, WellFormed, Interpretation, OnChain, grade_at}
use Rattle.semantics.specs.Books.{name_above}
use Rattle.semantics.specs.Table.{Follows}
use Rattle.types.specs.Candidates.{Place, named, quantifying, follows, place, named?, bearer, OpensAs, Opens, opens?, places, home_as, home, place_number, base, candidates, in_candidate, grade_in, HasType, place_grade, type_of, HasPlace}
use Rattle.semantics.proofs.Terms.{value-local, value_unique}
use Rattle.semantics.proofs.Interpretations.{grade_at-local, grade_at_le}

-- a term is a name, or has none
pub name-or-none : (t : Term) → ((a : ℕ) × (t ≡ name a)) ⊎ (name_above t ≡ 0)
name-or-none (name a) = inl (a, refl)
name-or-none (not c) = inr refl
name-or-none (and c d) = inr refl
name-or-none (or c d) = inr refl
name-or-none (some r c) = inr refl
name-or-none (all r c) = inr refl
name-or-none top = inr refl
name-or-none bottom = inr refl

module _ (ts : List Term) where
  -- a name has a home, which is a term with that name; a quantified term is its own
  pub home-name : (i a : ℕ) → i < length ts → term ts i ≡ name a → (home ts i < length ts) × Opens ts (home ts i) × (term ts (home ts i) ≡ name a)
  unfolding home home_as
  home-name i a l e =
      subst (λ (p : Place). (home_as ts i p < length ts) × Opens ts (home_as ts i p) × (term ts (home_as ts i p) ≡ name a)) (sym (ap place e)) (go (bearer ts a))
    where
      go : (w : First (named? ts a) (length ts)) → let h : ℕ = ⊎_elim (λ u. u.0) (λ _. i) w in (h < length ts) × Opens ts h × (term ts h ≡ name a)
      go (inl w) = (w.1, subst (OpensAs ts w.0) (sym (ap place w.2)) w.3, w.2)
      go (inr f) = absurd (f i l e)

  pub home-none : (i a : ℕ) → i < length ts → term ts i ≡ name a → (j : ℕ) → j < home ts i → ¬ (term ts j ≡ name a)
  home-none i a l e = let h = home-name i a l e in subst (OpensAs ts (home ts i)) (ap place h.2) h.1

  -- so it is the first term that has the name
  pub home-first : (i a x : ℕ) → i < length ts → term ts i ≡ name a → term ts x ≡ name a → ((j : ℕ) → j < x → ¬ (term ts j ≡ name a)) → home ts i ≡ x
  home-first i a x l e f n =
      let m : ¬ (x < home ts i) = λ h. home-none i a l e x h f in
      let k : ¬ (home ts i < x) = λ h. n (home ts i) h (home-name i a l e).2 in
      omega arith

  -- a term that is no name is its own home
  pub home_other : (i : ℕ) → name_above (term ts i) ≡ 0 → home ts i ≡ i
  unfolding home home_as
  home_other i = go (term ts i)
    where
      go : (t : Term) → name_above t ≡ 0 → home_as ts i (place t) ≡ i
      go (name a) e = absurd (omega arith)
      go (not c) e = refl
      go (and c d) e = refl
      go (or c d) e = refl
      go (some r c) e = refl
      go (all r c) e = refl
      go top e = refl
      go bottom e = refl

  pub home_no_later : (i : ℕ) → i < length ts → home ts i ≤ i
  home_no_later i l =
      ⊎_elim (λ w. let n : ¬ (i < home ts i) = λ h. home-none i w.0 l w.1 i h w.1 in omega arith) (λ e. omega (arith, home_other i e))
      (name-or-none (term ts i))

  pub home-quantifying : (i : ℕ) → place (term ts i) ≡ quantifying → (home ts i ≡ i) × Opens ts i
  unfolding home home_as
  home-quantifying i e = subst (λ (p : Place). (home_as ts i p ≡ i) × OpensAs ts i p) (sym e) (refl, tt)

  -- a term that opens a place is its own home
  pub home-opens : (i : ℕ) → i < length ts → Opens ts i → home ts i ≡ i
  unfolding home home_as
  home-opens i l = go (term ts i) refl
    where
      at : (a : ℕ) → term ts i ≡ name a → OpensAs ts i (named a) → (w : First (named? ts a) (length ts)) → ⊎_elim (λ u. u.0) (λ _. i) w ≡ i
      at a e o (inl w) =
          let n : ¬ (w.0 < i) = λ h. o w.0 h w.2 in
          let m : ¬ (i < w.0) = λ h. w.3 i h e in
          omega arith
      at a e o (inr f) = refl

      go : (t : Term) → term ts i ≡ t → OpensAs ts i (place t) → home_as ts i (place t) ≡ i
      go (name a) e o = at a e o (bearer ts a)
      go (not c) e o = absurd o
      go (and c d) e o = absurd o
      go (or c d) e o = absurd o
      go (some r c) e o = refl
      go (all r c) e o = refl
      go top e o = absurd o
      go bottom e o = absurd o

  -- a term's home is its own, and is the same term
  pub home-home : (i : ℕ) → i < length ts → home ts (home ts i) ≡ home ts i
  home-home i l =
      ⊎_elim (λ w. let h = home-name i w.0 l w.1 in home-opens (home ts i) h.0 h.1) (λ e. ap (home ts) (home_other i e)) (name-or-none (term ts i))

  pub term-home : (i : ℕ) → i < length ts → term ts (home ts i) ≡ term ts i
  term-home i l = ⊎_elim (λ w. (home-name i w.0 l w.1).2 ∙ sym w.1) (λ e. ap (term ts) (home_other i e)) (name-or-none (term ts i))

  -- what opens a place is a name or a quantified term that is its own home
  pub opens-home : (i : ℕ) → i < length ts → Opens ts i ↔ (HasPlace (place (term ts i)) × (home ts i ≡ i))
  opens-home i l = (λ o. (opens-is (place (term ts i)) o, home-opens i l o), λ h. go (term ts i) refl h.0 h.1)
    where
      opens-is : (p : Place) → OpensAs ts i p → HasPlace p
      opens-is (named a) o = tt
      opens-is quantifying o = tt
      opens-is follows o = o

      go : (t : Term) → term ts i ≡ t → HasPlace (place t) → home ts i ≡ i → OpensAs ts i (place t)
      go (name a) e _ h = λ j m. home-none i a l e j (rw h m)
      go (not c) e p h = p
      go (and c d) e p h = p
      go (or c d) e p h = p
      go (some r c) e _ h = tt
      go (all r c) e _ h = tt
      go top e p h = p
      go bottom e p h = p

-- ---- the grades in a candidate

module _ (G : Grading) (w : WellFormed G) where
  pub grade_in-local : (c i : ℕ) → i < length G.terms → (t : Term) → term G.terms i ≡ t → grade_in G c i ≡ local (in_candidate G c) i t (grade_in G c)
  unfolding grade_in
  grade_in-local c i l t e =
      value-local (in_candidate G c) G.terms w.ordered i l ∙ ap (λ (s : Term). local (in_candidate G c) i s (grade_in G c)) e

  pub grade_in_le : (c i : ℕ) → i < length G.terms → grade_in G c i ≤ G.steps
  grade_in_le c =
      strong (λ i. i < length G.terms → grade_in G c i ≤ G.steps) (λ i ih l.
      rw (grade_in-local c i l (term G.terms i) refl) (go i (term G.terms i) (w.ordered i l) (λ j g. ih j g (omega arith))))
    where
      digit_le : (s : ℕ) → digit (base G) s c ≤ G.steps
      digit_le s = omega (arith, digit_lt (base G) (omega arith) s c)

      go : (i : ℕ) (t : Term) → Children i t → ((j : ℕ) → j < i → grade_in G c j ≤ G.steps) → local (in_candidate G c) i t (grade_in G c) ≤ G.steps
      go i (name a) h ih = digit_le (place_number G.terms i)
      go i (not x) h ih = w.lawful.negation_le _ (ih x h)
      go i (and x y) h ih = w.lawful.conjunction_le _ _ (ih x h.0) (ih y h.1)
      go i (or x y) h ih = w.lawful.disjunction_le _ _ (ih x h.0) (ih y h.1)
      go i (some r x) h ih = digit_le (place_number G.terms i)
      go i (all r x) h ih = digit_le (place_number G.terms i)
      go i top h ih = omega arith
      go i bottom h ih = omega arith

  -- the grade of a term that opens a place is the place's digit
  pub grade_in-opens : (c i : ℕ) → i < length G.terms → Opens G.terms i → grade_in G c i ≡ digit (base G) (rank (opens? G.terms) i) c
  unfolding place_number
  grade_in-opens c i l o =
      go (term G.terms i) refl o ∙ ap (λ (h : ℕ). digit (base G) (rank (opens? G.terms) h) c) (home-opens G.terms i l o)
    where
      go : (t : Term) → term G.terms i ≡ t → OpensAs G.terms i (place t) → grade_in G c i ≡ digit (base G) (place_number G.terms i) c
      go (name a) e o = grade_in-local c i l (name a) e
      go (not x) e o = absurd o
      go (and x y) e o = absurd o
      go (or x y) e o = absurd o
      go (some r x) e o = grade_in-local c i l (some r x) e
      go (all r x) e o = grade_in-local c i l (all r x) e
      go top e o = absurd o
      go bottom e o = absurd o

  -- a term has the grade of its home,
  pub grade_in-home : (c i : ℕ) → i < length G.terms → grade_in G c i ≡ grade_in G c (home G.terms i)
  unfolding place_number
  grade_in-home c i l =
      ⊎_elim (λ (a, e). let v = home-name G.terms i a l e in
      grade_in-local c i l (name a) e ∙ sym (grade_in-opens c (home G.terms i) v.0 v.1))
      (λ e. ap (grade_in G c) (sym (home_other G.terms i e))) (name-or-none (term G.terms i))

  -- so that of a name is that of its first bearer
  pub grade_in-name : (c i a : ℕ) → i < length G.terms → term G.terms i ≡ name a
      → grade_in G c i ≡ ⊎_elim (λ u. grade_in G c u.0) (λ _. 0) (bearer G.terms a)
  grade_in-name c i a l e = go (bearer G.terms a)
    where
      go : (v : First (named? G.terms a) (length G.terms)) → grade_in G c i ≡ ⊎_elim (λ u. grade_in G c u.0) (λ _. 0) v
      go (inl u) = grade_in-home c i l ∙ ap (grade_in G c) (home-first G.terms i a u.0 l e u.2 u.3)
      go (inr f) = absurd (f i l e)

  -- no two candidates share a type
  pub grade_in_inj : (c d : ℕ) → c < candidates G → d < candidates G → ((i : ℕ) → i < length G.terms → grade_in G c i ≡ grade_in G d i) → c ≡ d
  unfolding candidates places
  grade_in_inj c d hc hd e =
      digits_inj (base G) (omega arith) (places G.terms) c d hc hd (λ s h.
      let u = rank-onto (opens? G.terms) (length G.terms) s h in
      rw (← u.3) (sym (grade_in-opens c u.0 u.1 u.2) ∙ e u.0 u.1 ∙ grade_in-opens d u.0 u.1 u.2))

-- ---- the type of an element

module _ (G : Grading) (w : WellFormed G) (I : Interpretation) (p : OnChain G.steps I) (e : ℕ) (h : e < I.size) where
  place_grade_lt : (s : ℕ) → s < places G.terms → place_grade G I e s < base G
  unfolding places
  place_grade_lt s g = omega (arith, grade_at_le G I w p _ (select_lt (opens? G.terms) (length G.terms) s g) e h)

  pub type_of_lt : type_of G I e < candidates G
  unfolding type_of candidates
  type_of_lt = encode_lt (base G) (omega arith) (places G.terms) (place_grade G I e) place_grade_lt

  type_of-digit : (i : ℕ) → i < length G.terms → Opens G.terms i → digit (base G) (rank (opens? G.terms) i) (type_of G I e) ≡ grade_at G I i e
  unfolding type_of places
  type_of-digit i l o =
      digit-encode (base G) (omega arith) (places G.terms) (place_grade G I e) place_grade_lt (rank (opens? G.terms) i)
      (rank_lt (opens? G.terms) i (length G.terms) l o)
      ∙ ap (λ (j : ℕ). grade_at G I j e) (select-rank (opens? G.terms) (length G.terms) i l o)

  pub type_of_has : HasType G I e (type_of G I e)
  unfolding grade_in place_number
  type_of_has =
      value_unique (in_candidate G (type_of G I e)) G.terms w.ordered (λ i. grade_at G I i e) (λ i l. go i l (term G.terms i) refl)
    where
      quantifier : (i : ℕ) → i < length G.terms → place (term G.terms i) ≡ quantifying
          → grade_at G I i e ≡ digit (base G) (rank (opens? G.terms) (home G.terms i)) (type_of G I e)
      quantifier i l q =
          let u = home-quantifying G.terms i q in
          sym (type_of-digit i l u.1) ∙ ap (λ (j : ℕ). digit (base G) (rank (opens? G.terms) j) (type_of G I e)) (sym u.0)

      go : (i : ℕ) → i < length G.terms → (t : Term) → term G.terms i ≡ t
          → grade_at G I i e ≡ local (in_candidate G (type_of G I e)) i t (λ j. grade_at G I j e)
      go i l (name a) q =
          let u = home-name G.terms i a l q in
          grade_at-local G I w i l (name a) q e ∙ sym (grade_at-local G I w (home G.terms i) u.0 (name a) u.2 e)
          ∙ sym (type_of-digit (home G.terms i) u.0 u.1)
      go i l (not x) q = grade_at-local G I w i l (not x) q e
      go i l (and x y) q = grade_at-local G I w i l (and x y) q e
      go i l (or x y) q = grade_at-local G I w i l (or x y) q e
      go i l (some r x) q = quantifier i l (ap place q)
      go i l (all r x) q = quantifier i l (ap place q)
      go i l top q = grade_at-local G I w i l top q e
      go i l bottom q = grade_at-local G I w i l bottom q e

  -- and it is the only one
  pub type_of_only : (c : ℕ) → c < candidates G → HasType G I e c → c ≡ type_of G I e
  type_of_only c l t = grade_in_inj G w c (type_of G I e) l type_of_lt (λ i g. sym (t i g) ∙ type_of_has i g)

-- "The other terms' grades follow", by the table's connectives
pub grade_in-follows : (G : Grading) → WellFormed G → (n : ℕ) → Follows G n (λ i c. grade_in G c i)
grade_in-follows G w n = record {
  not_row = λ i x (l, t) c h. grade_in-local G w c i l (not x) t;
  and_row = λ i x y (l, t) c h. grade_in-local G w c i l (and x y) t;
  or_row = λ i x y (l, t) c h. grade_in-local G w c i l (or x y) t;
  top_row = λ i (l, t) c h. grade_in-local G w c i l top t;
  bottom_row = λ i (l, t) c h. grade_in-local G w c i l bottom t;
}
