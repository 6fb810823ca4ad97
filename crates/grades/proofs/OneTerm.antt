-- Laws of one term of a pass: what its kind tells; that the table's grades and the digits left are the candidate's; and which links a
-- term allows.
-- Assumes nothing.
use mathlib.Core.Path.{◌≡◌, refl, sym, ap, subst, ◌∙◌}
use mathlib.Core.Bool.{Bool}
use mathlib.Core.Logic.{dite, if_pos, if_neg}
use mathlib.Core.List.{List}
use Prim.Native.Nat.{ℕ, ◌+◌, ◌/◌, ◌%◌, ◌^◌, ◌≤◌, ◌<◌}
use native.Mathlib.Decide.{dec_lt}
use native.Mathlib.Numerals.{add-one}
use native.Mathlib.Omega.{arith}
use lib.ListN.{length, get_or}
use Rattle.chain.specs.Decisions.{Tells}
use Rattle.chain.specs.Lists.{table}
use Rattle.chain.specs.Connectives.{Quantifier, existential, universal, Permits}
use Rattle.chain.proofs.Decisions.{tells_map}
use Rattle.chain.proofs.Lists.{length-table, get_or-table, every_table}
use Rattle.chain.proofs.Digits.{digit_power, off_zero, off_suc}
use Rattle.semantics.specs.Terms.{Term, name, not, and, or, some, all, top, bottom, term, Children, local}
use Rattle.semantics.specs.Quantified.{quantified, Case, case_at}
use Rattle.semantics.specs.Interpretations.{Grading, WellFormed}
use Rattle.semantics.specs.Links.{Governs, TermAllows}
use Rattle.semantics.proofs.Terms.{local_same}
use Rattle.semantics.proofs.Quantified.{quantified_alike}
use Rattle.types.specs.Candidates.{place, HasPlace, Opens, opens?, home as home_of, grade_in}
use Rattle.types.proofs.Candidates.{home_no_later, home-opens, opens-home, grade_in-local, grade_in_le, grade_in-opens, grade_in-home}
use Rattle.places.proofs.Places.{opens_not, open_before, none_open, open_more, open_same}
use Rattle.gradings.specs.Gradings.{connectives_of, grading}
use Rattle.gradings.specs.declared.Logic.{Logic}
use Rattle.gradings.proofs.Gradings.{grading_well_formed}
use Rattle.sections.specs.Terms.{term_count, term_at, terms_of, TermsRight}
use Rattle.sections.specs.Values.{as_term}
use Rattle.sections.specs.declared.Quantifier.{Quantifier as ValueQuantifier}
use Rattle.sections.specs.declared.Term.{Term as Value}
use Rattle.sections.specs.declared.Term.TheVariants.{Name, Not, And, Or, Quantified, Top, Bottom}
use Rattle.sections.proofs.Terms.{length-terms, term-at, terms-ordered}
use Rattle.grades.specs.OneTerm.{with_places, next_grade, rest_after, grade_of_place, rest_of_place}

-- ---- the table's grade

module _ (l : Logic) (d home : ℕ) (s xs : List ℕ) where
  abbrev in_table : Term → ℕ
  in_table t = local (with_places l (grade_of_place d home xs)) (length xs) t (λ j. get_or xs j 0)

  -- the next term's, where the term is known
  pub grade-term : (t : Term) → t ≡ term_at s (length xs) → in_table t ≡ next_grade l d home s xs
  unfolding next_grade
  grade-term t e = ap in_table e

  -- where it has a place, it is the grade of the place
  pub grade-place : HasPlace (place (term_at s (length xs))) → grade_of_place d home xs ≡ next_grade l d home s xs
  unfolding next_grade
  grade-place = go (term_at s (length xs))
    where
      go : (t : Term) → HasPlace (place t) → grade_of_place d home xs ≡ in_table t
      go (name a) _ = refl
      go (some r c) _ = refl
      go (all r c) _ = refl
      go (not c) h = absurd h
      go (and c e) h = absurd h
      go (or c e) h = absurd h
      go top h = absurd h
      go bottom h = absurd h

-- ---- what is left of a candidate's digits

module _ (B c : ℕ) (ts : List Term) (i : ℕ) where
  pub rest-opens : Opens ts i → c / B ≡ rest_after B ts i c
  unfolding rest_after
  rest-opens o = sym (if_pos (opens? ts i) o (c / B) c)

  pub rest_other : ¬ Opens ts i → c ≡ rest_after B ts i c
  unfolding rest_after
  rest_other n = sym (if_neg (opens? ts i) n (c / B) c)

-- what is left at term i: the digits of the places that were opened before it are off
abbrev pub rest_at : (N : ℕ) (s : List ℕ) (c i : ℕ) → ℕ
rest_at N s c i = c / (N + 1) ^ open_before (terms_of s) i

module _ (N : ℕ) (s : List ℕ) (c : ℕ) where
  pub rest_start : c ≡ rest_at N s c 0
  rest_start = sym (rw (none_open (terms_of s)) (off_zero (N + 1) c))

  pub rest-next : (i : ℕ) → rest_after (N + 1) (terms_of s) i (rest_at N s c i) ≡ rest_at N s c (i + 1)
  rest-next i =
      let ts = terms_of s in
      dite (opens? ts i)
      (λ o. sym (rest-opens (N + 1) (rest_at N s c i) ts i o) ∙ off_suc (N + 1) (open_before ts i) c
      ∙ ap (λ (k : ℕ). c / (N + 1) ^ k) (sym (add-one (open_before ts i)) ∙ open_more ts i o))
      (λ n. sym (rest_other (N + 1) (rest_at N s c i) ts i n) ∙ ap (λ (k : ℕ). c / (N + 1) ^ k) (open_same ts i n))

-- ---- the grade of the place that a term has

module _ (d home : ℕ) (xs : List ℕ) where
  pub place-earlier : home < length xs → get_or xs home 0 ≡ grade_of_place d home xs
  unfolding grade_of_place
  place-earlier h = sym (if_pos (dec_lt home (length xs)) h _ _)

  pub place-digit : ¬ (home < length xs) → d ≡ grade_of_place d home xs
  unfolding grade_of_place
  place-digit n = sym (if_neg (dec_lt home (length xs)) n _ _)

module _ (B home : ℕ) (xs : List ℕ) (c : ℕ) where
  pub left-earlier : home < length xs → c ≡ rest_of_place B home xs c
  unfolding rest_of_place
  left-earlier h = sym (if_pos (dec_lt home (length xs)) h _ _)

  pub left-digit : ¬ (home < length xs) → c / B ≡ rest_of_place B home xs c
  unfolding rest_of_place
  left-digit n = sym (if_neg (dec_lt home (length xs)) n _ _)

-- what the next term leaves: it has no place, or its place tells
module _ (B c : ℕ) (s xs : List ℕ) (h : length xs < term_count s) where
  pub rest-none : (t : Term) → t ≡ term_at s (length xs) → ¬ HasPlace (place t) → c ≡ rest_after B (terms_of s) (length xs) c
  rest-none t e n = rest_other B c (terms_of s) (length xs) (opens_not s (length xs) h (rw (← e) n))

  pub rest-place : HasPlace (place (term_at s (length xs)))
      → rest_of_place B (home_of (terms_of s) (length xs)) xs c ≡ rest_after B (terms_of s) (length xs) c
  rest-place has =
      let ts = terms_of s in
      let i = length xs in
      let below : i < length ts = rw (length-terms s) h in
      let opens = opens-home ts i below in
      dite (dec_lt (home_of ts i) i)
      (λ m. sym (left-earlier B (home_of ts i) xs c m) ∙ rest_other B c ts i (λ o. omega (arith, (opens.0 o).1)))
      (λ n. sym (left-digit B (home_of ts i) xs c n) ∙ rest-opens B c ts i
      (opens.1 (subst (λ (t : Term). HasPlace (place t)) (sym (term-at s i h)) has, omega (arith, home_no_later ts i below))))

-- a quantified term has a place
pub quantified_place : (q : Quantifier) (r c : ℕ) → HasPlace (place (quantified q r c))
quantified_place existential r c = tt
quantified_place universal r c = tt

-- it opens its place, and so has the digit and takes it off
module _ (s xs : List ℕ) (h : length xs < term_count s) (q : Quantifier) (r x : ℕ) (e : quantified q r x ≡ term_at s (length xs)) where
  quantified-opens : Opens (terms_of s) (length xs)
  quantified-opens = go q (term-at s (length xs) h ∙ sym e)
    where
      go : (p : Quantifier) → term (terms_of s) (length xs) ≡ quantified p r x → Opens (terms_of s) (length xs)
      go existential f = rw f tt
      go universal f = rw f tt

  pub grade-quantified : (l : Logic) (d : ℕ) → d ≡ next_grade l d (home_of (terms_of s) (length xs)) s xs
  grade-quantified l d =
      place-digit d (home_of (terms_of s) (length xs)) xs
      (λ m. omega (arith, m, home-opens (terms_of s) (length xs) (rw (length-terms s) h) quantified-opens))
      ∙ grade-place l d (home_of (terms_of s) (length xs)) s xs (rw (← e) (quantified_place q r x))

  pub rest-quantified : (B c : ℕ) → c / B ≡ rest_after B (terms_of s) (length xs) c
  rest-quantified B c = rest-opens B c (terms_of s) (length xs) quantified-opens

-- ---- a row, one grade after the other

-- the grades of the terms before number i
abbrev pub earlier : Logic → (s : List ℕ) (c i : ℕ) → List ℕ
earlier l s c = table (grade_in (grading l (terms_of s)) c)

module _ (l : Logic) (s : List ℕ) (ok : TermsRight s) (c : ℕ) where
  abbrev G : Grading
  G = grading l (terms_of s)

  w : WellFormed G
  w = grading_well_formed l (terms_of s) (terms-ordered s ok)

  pub earlier_le : (i : ℕ) → i ≤ term_count s → (j : ℕ) → get_or (earlier l s c i) j 0 ≤ l.steps
  earlier_le i h =
      every_table (λ x. x ≤ l.steps) (grade_in G c) i 0 (omega arith) (λ j g. grade_in_le G w c j (rw (length-terms s) (omega arith)))

  -- over them the table gives the grade of term i
  pub grade-next : (i rest d home : ℕ) (xs : List ℕ) → i < term_count s → xs ≡ earlier l s c i → rest ≡ rest_at l.steps s c i → d ≡ rest % (l.steps + 1)
      → home ≡ home_of (terms_of s) i → next_grade l d home s xs ≡ grade_in G c i
  unfolding next_grade
  grade-next i rest d home xs h ex er ed eh =
      rw long
      (local_same (with_places l own) i (term_at s i) (subst (Children i) e (terms-ordered s ok i below)) _ (grade_in G c)
      (λ j m. rw ex (get_or-table (grade_in G c) i j 0 m)) ∙ go (term_at s i) e)
    where
      own : ℕ
      own = grade_of_place d home xs

      below : i < length (terms_of s)
      below = rw (length-terms s) h

      e : term (terms_of s) i ≡ term_at s i
      e = term-at s i h

      long : length xs ≡ i
      long = ap length ex ∙ length-table (grade_in G c) i

      placed : (t : Term) → term (terms_of s) i ≡ t → HasPlace (place t) → own ≡ grade_in G c i
      placed t q p =
          dite (dec_lt home i)
          (λ m. sym (place-earlier d home xs (rw long m)) ∙ rw ex (get_or-table (grade_in G c) i home 0 m)
          ∙ sym (grade_in-home G w c i below ∙ ap (grade_in G c) (sym eh)))
          (λ n. let o : Opens (terms_of s) i =
          (opens-home (terms_of s) i below).1 (subst (λ (u : Term). HasPlace (place u)) (sym q) p, omega (arith, eh, home_no_later (terms_of s) i below)) in
          sym (place-digit d home xs (rw long n)) ∙ ed ∙ ap (λ (z : ℕ). z % (l.steps + 1)) er
          ∙ sym (grade_in-opens G w c i below o ∙ digit_power (l.steps + 1) (open_before (terms_of s) i) c))

      go : (t : Term) → term (terms_of s) i ≡ t → local (with_places l own) i t (grade_in G c) ≡ grade_in G c i
      go (name a) q = placed (name a) q tt
      go (not x) q = sym (grade_in-local G w c i below (not x) q)
      go (and x y) q = sym (grade_in-local G w c i below (and x y) q)
      go (or x y) q = sym (grade_in-local G w c i below (or x y) q)
      go (some r x) q = placed (some r x) q tt
      go (all r x) q = placed (all r x) q tt
      go top q = sym (grade_in-local G w c i below top q)
      go bottom q = sym (grade_in-local G w c i below bottom q)

-- ---- the link that a term allows

module _ (l : Logic) (s : List ℕ) (r : ℕ) (own child : ℕ → ℕ) (g i : ℕ) (h : i < term_count s) where
  abbrev Γ : Grading
  Γ = grading l (terms_of s)

  -- a term of another kind asks nothing
  pub allows-other : (t : Value) → as_term t ≡ term_at s i → ((q : ValueQuantifier) (x y : ℕ) → ¬ (t ≡ Quantified q x y)) → TermAllows Γ r own child g i
  allows-other t e n p x y f _ = absurd (case_at (λ _ _ _. ⊥) (as_term t) (go t n) p x y (e ∙ sym (term-at s i h) ∙ f))
    where
      go : (v : Value) → ((q : ValueQuantifier) (x y : ℕ) → ¬ (v ≡ Quantified q x y)) → Case (λ _ _ _. ⊥) (as_term v)
      go (Name a) n = tt
      go (Not c) n = tt
      go (And c d) n = tt
      go (Or c d) n = tt
      go (Quantified q z c) n = absurd (n q z c refl)
      go Top n = tt
      go Bottom n = tt

  -- a quantified term asks one thing, and that only if it is of a role that bounds the link
  module _ (q : Quantifier) (x y : ℕ) (e : quantified q x y ≡ term_at s i) where
    pub allows-role : ¬ Governs Γ x r → TermAllows Γ r own child g i
    allows-role n p z w f o =
        absurd (n (subst (λ (v : ℕ). Governs Γ v r) (sym (quantified_alike q p x z y w (e ∙ sym (term-at s i h) ∙ f)).1) o))

    pub allows-quantified : (b : Bool) → Governs Γ x r → Tells b (Permits (connectives_of l) q g (child y) (own i)) → Tells b (TermAllows Γ r own child g i)
    allows-quantified b o =
        tells_map b
        (λ a p z w f _. let u = quantified_alike q p x z y w (e ∙ sym (term-at s i h) ∙ f) in
        subst (λ (v : Quantifier). Permits (connectives_of l) v g (child w) (own i)) u.0
        (subst (λ (v : ℕ). Permits (connectives_of l) q g (child v) (own i)) u.2 a))
        (λ a. a q x y (term-at s i h ∙ sym e) o)
