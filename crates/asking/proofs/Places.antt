-- A book's places by its bytes are those of its terms; how many there are; and terms with one name have one grade.
-- Assumes nothing.
use mathlib.Core.Path.{◌≡◌, refl, sym, ap, subst, ◌∙◌}
use mathlib.Core.Logic.{◌↔◌, ◌⊎◌, inl, inr, ⊎_elim, dite}
use mathlib.Core.List.{List}
use Prim.Native.Nat.{ℕ, zero, suc, ◌+◌, ◌^◌, ◌≤◌, ◌<◌}
use native.Mathlib.Decide.{ℕ_discrete}
use native.Mathlib.Omega.{arith}
use lib.ListN.{length}
use Rattle.chain.specs.Decisions.{dec_and}
use Rattle.chain.specs.Digits.{digit}
use Rattle.chain.specs.Search.{rank}
use Rattle.chain.proofs.Search.{below_cases, rank_yes, rank_no, rank_same, rank-onto, rank-none, none_pass, rank_one_more}
use Rattle.semantics.specs.Terms.{Term, name, term}
use Rattle.types.specs.Candidates.{bearer, place, HasPlace, OpensAs, Opens, opens?, places, candidates, grade_in}
use Rattle.types.proofs.Candidates.{opens-home, grade_in-opens, grade_in-name}
use Rattle.sections.specs.Terms.{kind_at, a_at, b_at, term_at, term_count, terms_of, TermsRight, SameName}
use Rattle.sections.proofs.Terms.{by_kind, term-kind, range_kind, length-terms, term-at, name-bytes}
use Rattle.book.specs.Reading.{book_of}
use Rattle.book.specs.Opening.{Accepts}
use Rattle.book.proofs.Opening.{accepts_right}
use Rattle.book.proofs.Reading.{accepts_valid}
use Rattle.asking.specs.Places.{terms, FirstOfName, QuantifiedAt, PlaceAt, quantified_at?, place_at?, place_of, Bears, bears?, names_in, quantified_in}

-- which kinds are places
module _ (s : List ℕ) (i : ℕ) where
  place-kinds : HasPlace (place (term_at s i)) → (kind_at s i ≡ 0) ⊎ ((kind_at s i ≡ 4) ⊎ (kind_at s i ≡ 5))
  place-kinds =
      by_kind (λ k t. HasPlace (place t) → (k ≡ 0) ⊎ ((k ≡ 4) ⊎ (k ≡ 5))) (a_at s i) (b_at s i) (λ _. inl refl) (λ z. absurd z) (λ z. absurd z) (λ z. absurd z)
      (λ _. inr (inl refl)) (λ _. inr (inr refl)) (λ z. absurd z) (λ z. absurd z) (λ _ _ z. absurd z) (kind_at s i)

  -- a term of kind 0 is a name
  named : i < term_count s → kind_at s i ≡ 0 → term (terms_of s) i ≡ name (a_at s i)
  named h k = term-at s i h ∙ term-kind s i 0 k

module _ (b : List ℕ) (ok : Accepts b) where
  right : TermsRight (terms b)
  right = (accepts_right b ok).terms_right

  abbrev ts : List Term
  ts = terms_of (terms b)

  -- ---- places by bytes

  opens-quantified : (i : ℕ) → i < term_count (terms b) → QuantifiedAt b i → Opens ts i
  opens-quantified i h =
      ⊎_elim (λ k. subst (λ (t : Term). OpensAs ts i (place t)) (sym (term-at (terms b) i h ∙ term-kind (terms b) i 4 k)) tt)
      (λ k. subst (λ (t : Term). OpensAs ts i (place t)) (sym (term-at (terms b) i h ∙ term-kind (terms b) i 5 k)) tt)

  opens-first : (i : ℕ) → i < term_count (terms b) → FirstOfName b i → Opens ts i
  opens-first i h (k, n) =
      subst (λ (t : Term). OpensAs ts i (place t)) (sym (named (terms b) i h k)) (λ j l e.
      let (z, q) = name-bytes (terms b) right j (a_at (terms b) i) (omega arith) e in n j l (z, (k, q)))

  place-opens : (i : ℕ) → i < term_count (terms b) → PlaceAt b i ↔ Opens ts i
  place-opens i h = (
    ⊎_elim (opens-first i h) (opens-quantified i h),
    λ o. ⊎_elim (λ k. inl (
      k,
      λ j l e. subst (λ (t : Term). OpensAs ts i (place t)) (named (terms b) i h k) o j l
          (named (terms b) j (omega arith) e.0 ∙ ap name e.1.1),
    )) inr
        (place-kinds (terms b) i (subst (λ (t : Term). HasPlace (place t)) (term-at (terms b) i h) ((opens-home ts i (rw (length-terms (terms b)) h)).0 o).0)),
  )

  ranks : (n : ℕ) → n ≤ term_count (terms b) → place_of b n ≡ rank (opens? ts) n
  unfolding place_of
  ranks n h = rank_same (place_at? b) (opens? ts) n (λ i l. place-opens i (omega arith))

  pub candidates_by_places : candidates (book_of b).grading ≡ ((book_of b).grading.steps + 1) ^ place_of b (length (book_of b).grading.terms)
  unfolding book_of candidates places
  candidates_by_places =
      ap (λ (k : ℕ). ((book_of b).grading.steps + 1) ^ k) (sym (ranks (length ts) (omega (arith, length-terms (terms b)))))

  pub grade_by_places : (c i : ℕ) → i < length (book_of b).grading.terms → PlaceAt b i
      → grade_in (book_of b).grading c i ≡ digit ((book_of b).grading.steps + 1) (place_of b i) c
  unfolding book_of
  grade_by_places c i l p =
      let h : i < term_count (terms b) = omega (arith, length-terms (terms b)) in
      grade_in-opens (book_of b).grading (accepts_valid b ok).well_formed c i l ((place-opens i h).0 p)
      ∙ ap (λ (s : ℕ). digit ((book_of b).grading.steps + 1) s c) (sym (ranks i (omega arith)))

  -- each number below theirs is a place's
  pub place-numbered : (s : ℕ) → s < place_of b (length (book_of b).grading.terms) → (i : ℕ) × (i < length (book_of b).grading.terms) × PlaceAt b i × (place_of b i ≡ s)
  unfolding place_of
  place-numbered s = rank-onto (place_at? b) (length (book_of b).grading.terms) s

  -- the grade of a name is that of the first term that has it
  pub grade_by_bearer : (c i : ℕ) → i < length (book_of b).grading.terms → kind_at (terms b) i ≡ 0
      → grade_in (book_of b).grading c i ≡ ⊎_elim (λ u. grade_in (book_of b).grading c u.0) (λ _. 0) (bearer (book_of b).grading.terms (a_at (terms b) i))
  unfolding book_of
  grade_by_bearer c i l k =
      grade_in-name (book_of b).grading (accepts_valid b ok).well_formed c i (a_at (terms b) i) l (named (terms b) i (omega (arith, length-terms (terms b))) k)

  pub one_name : (c i j : ℕ) → i < length (book_of b).grading.terms → j < length (book_of b).grading.terms → SameName (terms b) i j
      → grade_in (book_of b).grading c i ≡ grade_in (book_of b).grading c j
  one_name c i j li lj (ki, (kj, e)) =
      grade_by_bearer c i li ki
      ∙ ap (λ (a : ℕ). ⊎_elim (λ u. grade_in (book_of b).grading c u.0) (λ _. 0) (bearer (book_of b).grading.terms a)) e
      ∙ sym (grade_by_bearer c j lj kj)

  -- a name that a term bears is 0 to 15, and the term is that name
  pub bears-few : (a : ℕ) → Bears b (term_count (terms b)) a → a < 16
  bears-few a (j, h, (k, e)) = rw (← e) (range_kind (terms b) j right h 0 k).0

  pub bears-term : (a : ℕ) → Bears b (term_count (terms b)) a → (j : ℕ) × (j < length (book_of b).grading.terms) × (term (book_of b).grading.terms j ≡ name a)
  unfolding book_of
  bears-term a (j, h, (k, e)) = (j, rw (length-terms (terms b)) h, named (terms b) j h k ∙ ap name e)

  -- ---- how many there are

  -- one term more: a new name, a quantified term, or none
  counted-more : (n : ℕ) → n < term_count (terms b) → rank (place_at? b) n ≡ rank (bears? b n) 16 + rank (quantified_at? b) n
      → rank (place_at? b) (suc n) ≡ rank (bears? b (suc n)) 16 + rank (quantified_at? b) (suc n)
  counted-more n l before = dite (ℕ_discrete (kind_at (terms b) n) 0) named_here other_here
    where
      -- what bears a name before this term bears it after
      grows : (a : ℕ) → Bears b n a → Bears b (suc n) a
      grows a (j, h, w) = (j, omega arith, w)

      -- and where this term does not, it did before
      shrinks : (a : ℕ) → ¬ ((kind_at (terms b) n ≡ 0) × (a_at (terms b) n ≡ a)) → Bears b (suc n) a → Bears b n a
      shrinks a m (j, h, w) =
          ⊎_elim (λ e. absurd (m (subst (λ (z : ℕ). (kind_at (terms b) z ≡ 0) × (a_at (terms b) z ≡ a)) e w))) (λ g. (j, g, w)) (below_cases n j h)

      bears-same : ((a : ℕ) → (kind_at (terms b) n ≡ 0) × (a_at (terms b) n ≡ a) → Bears b n a) → rank (bears? b n) 16 ≡ rank (bears? b (suc n)) 16
      bears-same known =
          rank_same (bears? b n) (bears? b (suc n)) 16 (λ a _. (
            grows a,
            λ w.
                dite (dec_and (ℕ_discrete (kind_at (terms b) n) 0) (ℕ_discrete (a_at (terms b) n) a)) (known a) (λ m. shrinks a m w),
          ))

      not-both : kind_at (terms b) n ≡ 0 → ¬ QuantifiedAt b n
      not-both k = ⊎_elim (λ e. omega (arith, k, e)) (λ e. omega (arith, k, e))

      named_here : kind_at (terms b) n ≡ 0 → rank (place_at? b) (suc n) ≡ rank (bears? b (suc n)) 16 + rank (quantified_at? b) (suc n)
      named_here k =
          rw (rank_no (quantified_at? b) n (not-both k)) (dite (bears? b n (a_at (terms b) n))
          (λ (j, h, (z, e)). rank_no (place_at? b) n (⊎_elim (λ p. p.1 j h (z, (k, e))) (not-both k)) ∙ before
          ∙ ap (λ (m : ℕ). m + rank (quantified_at? b) n) (bears-same (λ a w. (j, h, (z, e ∙ w.1)))))
          (λ m. rank_yes (place_at? b) n (inl (k, λ j h w. m (j, h, (w.0, w.1.1)))) ∙ ap suc before
          ∙ omega (
            arith,
            rank_one_more (bears? b n) (bears? b (suc n)) (a_at (terms b) n) m (n, omega arith, (k, refl))
                (λ a d. (grows a, shrinks a (λ w. d (sym w.1)))) 16 (range_kind (terms b) n right l 0 k).0,
          )))

      other_here : ¬ (kind_at (terms b) n ≡ 0) → rank (place_at? b) (suc n) ≡ rank (bears? b (suc n)) 16 + rank (quantified_at? b) (suc n)
      other_here m =
          rw (← bears-same (λ a w. absurd (m w.0))) (dite (quantified_at? b n)
          (λ q. rw (rank_yes (quantified_at? b) n q) (rank_yes (place_at? b) n (inr q) ∙ ap suc before ∙ omega arith))
          (λ q. rw (rank_no (quantified_at? b) n q) (rank_no (place_at? b) n (⊎_elim (λ p. m p.0) q) ∙ before)))

  counted-before : (n : ℕ) → n ≤ term_count (terms b) → rank (place_at? b) n ≡ rank (bears? b n) 16 + rank (quantified_at? b) n
  counted-before zero l =
      omega (arith, rank-none (place_at? b), rank-none (quantified_at? b), none_pass (bears? b 0) 16 (λ a w. omega (arith, w.1)))
  counted-before (suc n) l = counted-more n (omega arith) (counted-before n (omega arith))

  pub places-counted : place_of b (length (book_of b).grading.terms) ≡ names_in b + quantified_in b
  unfolding book_of place_of names_in quantified_in
  places-counted = rw (length-terms (terms b)) (counted-before (term_count (terms b)) (omega arith))
