-- Laws of terms that are renumbered so that the places stay what they are: the candidates are the same, with the same grades and links. Leaving out the
-- terms that repeat a name is such a renumbering.
-- Assumes nothing.
use mathlib.Core.Path.{◌≡◌, refl, sym, ap, ap₂, subst, ◌∙◌}
use mathlib.Core.Logic.{◌↔◌, ⊎_elim, dite, ite, if_pos, if_neg}
use mathlib.Core.List.{List, [], ◌∷◌, ◌++◌}
use Prim.Native.Nat.{ℕ, zero, suc, ◌^◌, ◌≤◌, ◌<◌}
use native.Mathlib.Nat.{le_antisymm}
use native.Mathlib.Decide.{dec_lt}
use native.Mathlib.Omega.{arith}
use lib.ListN.{length, length-append, get_or-append}
use lib.Seq.{get_or-append_seam}
use Rattle.chain.specs.Search.{rank}
use Rattle.chain.specs.Digits.{digit}
use Rattle.chain.specs.Connectives.{Quantifier, existential, universal, Permits}
use Rattle.chain.proofs.Lists.{length-table, get_or-table, map-each-same}
use Rattle.chain.proofs.Search.{strong, rank_yes, rank_no, rank_lt, rank-onto, rank_same, select-rank}
use Rattle.semantics.specs.Terms.{Term, name, not, and, or, some, all, top, bottom, term, Children, Ordered, local}
use Rattle.semantics.specs.Quantified.{quantified, Case, case_at}
use Rattle.semantics.specs.Interpretations.{Grading, WellFormed}
use Rattle.semantics.specs.Books.{Rule, MembershipClaim, Book, Valid}
use Rattle.semantics.specs.Links.{Allows}
use Rattle.semantics.proofs.Terms.{with_term}
use Rattle.semantics.proofs.Links.{child_in}
use Rattle.types.specs.Candidates.{place, HasPlace, OpensAs, Opens, opens?, places, home, place_number, base, candidates, in_candidate, grade_in}
use Rattle.types.specs.Links.{link}
use Rattle.types.specs.Sharing.{renumber, renumber_rule, renumber_claim, kept?, shared_number, shared_terms, with_terms, renumbered, shared}
use Rattle.types.proofs.Candidates.{name-or-none, home-none, home-first, home_other, home-opens, home_no_later, home-home, term-home, opens-home, grade_in-local}
use Rattle.types.proofs.Links.{link_le, link-most, link-allows}

-- term i of ts is term f i of us, there are no others, and the places are as many and numbered alike
pub record Renumbered (f : ℕ → ℕ) (ts us : List Term) : Type 0 where
  pub lands : (i : ℕ) → i < length ts → f i < length us
  pub term_same : (i : ℕ) → i < length ts → term us (f i) ≡ renumber f (term ts i)
  pub onto : (j : ℕ) → j < length us → (i : ℕ) × (i < length ts) × (f i ≡ j)
  pub places_same : places us ≡ places ts
  pub number_same : (i : ℕ) → i < length ts → HasPlace (place (term ts i)) → place_number us (f i) ≡ place_number ts i

-- and so of two books: C is B with term f i in place of i, in terms, rules and claims
pub record RenumberedBook (f : ℕ → ℕ) (B C : Book) : Type 0 where
  pub formed : WellFormed (with_terms B.grading C.grading.terms)
  pub terms_renumbered : Renumbered f B.grading.terms C.grading.terms
  pub book_is : C ≡ renumbered f C.grading.terms B

-- what a renumbered term is, the term was, with other children
module _ (f : ℕ → ℕ) where
  pub renumber-quantified : (t : Term) (q : Quantifier) (r x : ℕ) → renumber f t ≡ quantified q r x → (y : ℕ) × (t ≡ quantified q r y) × (f y ≡ x)
  renumber-quantified t = case_at (λ q r x. (y : ℕ) × (t ≡ quantified q r y) × (f y ≡ x)) (renumber f t) (go t)
    where
      go : (t : Term) → Case (λ q r x. (y : ℕ) × (t ≡ quantified q r y) × (f y ≡ x)) (renumber f t)
      go (name a) = tt
      go (not c) = tt
      go (and c d) = tt
      go (or c d) = tt
      go (some r c) = (c, refl, refl)
      go (all r c) = (c, refl, refl)
      go top = tt
      go bottom = tt

  pub quantified-renumber : (q : Quantifier) (r x : ℕ) (t : Term) → t ≡ quantified q r x → renumber f t ≡ quantified q r (f x)
  quantified-renumber q r x t e = ap (renumber f) e ∙ go q
    where
      go : (q : Quantifier) → renumber f (quantified q r x) ≡ quantified q r (f x)
      go existential = refl
      go universal = refl

  renumber-name : (t : Term) (a : ℕ) → renumber f t ≡ name a → t ≡ name a
  renumber-name (name b) a e = e
  renumber-name (not c) a e = cc
  renumber-name (and c d) a e = cc
  renumber-name (or c d) a e = cc
  renumber-name (some r c) a e = cc
  renumber-name (all r c) a e = cc
  renumber-name top a e = e
  renumber-name bottom a e = e

  renumber-place : (t : Term) → place (renumber f t) ≡ place t
  renumber-place (name a) = refl
  renumber-place (not c) = refl
  renumber-place (and c d) = refl
  renumber-place (or c d) = refl
  renumber-place (some r c) = refl
  renumber-place (all r c) = refl
  renumber-place top = refl
  renumber-place bottom = refl

-- ---- the same candidates, with the same grades and links

module _ (G : Grading) (us : List Term) (f : ℕ → ℕ) (w : WellFormed G) (v : WellFormed (with_terms G us)) (re : Renumbered f G.terms us) where
  abbrev H : Grading
  H = with_terms G us

  pub candidates-renumbered : candidates G ≡ candidates H
  unfolding candidates
  candidates-renumbered = ap (λ (k : ℕ). base G ^ k) (sym re.places_same)

  pub grade-renumbered : (c i : ℕ) → i < length G.terms → grade_in G c i ≡ grade_in H c (f i)
  grade-renumbered c =
      strong (λ i. i < length G.terms → grade_in G c i ≡ grade_in H c (f i)) (λ i ih l.
      let t = term G.terms i in
      grade_in-local G w c i l t refl
      ∙ go i l t refl (w.ordered i l) (λ j g. ih j g (omega arith))
      ∙ sym (grade_in-local H v c (f i) (re.lands i l) (renumber f t) (re.term_same i l)))
    where
      number : (i : ℕ) → i < length G.terms → HasPlace (place (term G.terms i)) → digit (base G) (place_number G.terms i) c ≡ digit (base G) (place_number us (f i)) c
      number i l p = ap (λ (s : ℕ). digit (base G) s c) (sym (re.number_same i l p))

      go : (i : ℕ) → i < length G.terms → (t : Term) → term G.terms i ≡ t → Children i t → ((j : ℕ) → j < i → grade_in G c j ≡ grade_in H c (f j))
          → local (in_candidate G c) i t (grade_in G c) ≡ local (in_candidate H c) (f i) (renumber f t) (grade_in H c)
      go i l (name a) e h ih = number i l (rw e tt)
      go i l (not x) e h ih = ap G.connectives.negation (ih x h)
      go i l (and x y) e h ih = rw (ih x h.0, ih y h.1) refl
      go i l (or x y) e h ih = rw (ih x h.0, ih y h.1) refl
      go i l (some r x) e h ih = number i l (rw e tt)
      go i l (all r x) e h ih = number i l (rw e tt)
      go i l top e h ih = refl
      go i l bottom e h ih = refl

  module _ (r c d : ℕ) where
    allows_there : (s : ℕ) → Allows G r (grade_in G c) (grade_in G d) s → Allows H r (grade_in H c) (grade_in H d) s
    allows_there s a j l q t x e g =
        let (i, h, fi) = re.onto j l in
        let (y, ey, fy) = renumber-quantified f (term G.terms i) q t x (sym (re.term_same i h) ∙ rw fi e) in
        let p : Permits G.connectives q s (grade_in H d (f y)) (grade_in H c (f i)) =
        rw (← grade-renumbered d y (child_in G w i h q t y ey), ← grade-renumbered c i h) (a i h q t y ey g) in
        subst (λ (z : ℕ). Permits G.connectives q s (grade_in H d x) (grade_in H c z)) fi
        (subst (λ (z : ℕ). Permits G.connectives q s (grade_in H d z) (grade_in H c (f i))) fy p)

    allows-back : (s : ℕ) → Allows H r (grade_in H c) (grade_in H d) s → Allows G r (grade_in G c) (grade_in G d) s
    allows-back s a i l q t x e g =
        rw (grade-renumbered d x (child_in G w i l q t x e), grade-renumbered c i l)
        (a (f i) (re.lands i l) q t (f x) (re.term_same i l ∙ quantified-renumber f q t x (term G.terms i) e) g)

    pub link-renumbered : link G r c d ≡ link H r c d
    link-renumbered =
        le_antisymm
        (link-most H r c d (link G r c d) (link_le G r c d) (allows_there _ ((link-allows G r c d w (link G r c d) (link_le G r c d)).0 (omega arith))))
        (link-most G r c d (link H r c d) (link_le H r c d) (allows-back _ ((link-allows H r c d v (link H r c d) (link_le H r c d)).0 (omega arith))))

-- ---- leaving out the terms that repeat a name

module _ (ts : List Term) where
  abbrev kept_before : ℕ → ℕ
  kept_before = rank (kept? ts)

  long : length (shared_terms ts) ≡ kept_before (length ts)
  unfolding shared_terms
  long = length-table _ _

  number-kept : (i : ℕ) → home ts i ≡ i → shared_number ts i ≡ kept_before i
  unfolding shared_number
  number-kept i e = ap kept_before e

  number-home : (i : ℕ) → i < length ts → (home ts i < length ts) × (home ts (home ts i) ≡ home ts i) × (shared_number ts i ≡ kept_before (home ts i))
  unfolding shared_number
  number-home i l = (omega (arith, home_no_later ts i l), home-home ts i l, refl)

  kept_lands : (i : ℕ) → i < length ts → home ts i ≡ i → kept_before i < length (shared_terms ts)
  kept_lands i l e = rw long (rank_lt (kept? ts) i (length ts) l e)

  kept-term : (i : ℕ) → i < length ts → home ts i ≡ i → term (shared_terms ts) (kept_before i) ≡ renumber (shared_number ts) (term ts i)
  unfolding shared_terms
  kept-term i l e =
      get_or-table _ (kept_before (length ts)) (kept_before i) bottom (rank_lt (kept? ts) i (length ts) l e)
      ∙ ap (λ (j : ℕ). renumber (shared_number ts) (term ts j)) (select-rank (kept? ts) (length ts) i l e)

  kept_at : (j : ℕ) → j < length (shared_terms ts) → (i : ℕ) × (i < length ts) × (home ts i ≡ i) × (kept_before i ≡ j)
  kept_at j l = rank-onto (kept? ts) (length ts) j (rw (← long) l)

  -- a term that is left opens a place where it did
  opens_kept : (i : ℕ) → i < length ts → home ts i ≡ i → Opens (shared_terms ts) (kept_before i) ↔ Opens ts i
  opens_kept i l h = (
    λ o. (opens-home ts i l).1 (subst HasPlace same ((opens-home (shared_terms ts) (kept_before i) (kept_lands i l h)).0 o).0, h),
    λ o. go (term ts i) refl o,
  )
    where
      same : place (term (shared_terms ts) (kept_before i)) ≡ place (term ts i)
      same = ap place (kept-term i l h) ∙ renumber-place (shared_number ts) (term ts i)

      go : (t : Term) → term ts i ≡ t → OpensAs ts i (place t) → OpensAs (shared_terms ts) (kept_before i) (place (term (shared_terms ts) (kept_before i)))
      go (name a) e o = rw (same, e) (λ j m q.
          let (k, g, x, y) = rank-onto (kept? ts) i j m in
          o k g (renumber-name (shared_number ts) (term ts k) a (sym (kept-term k (omega arith) x) ∙ rw y q)))
      go (not c) e o = absurd o
      go (and c d) e o = absurd o
      go (or c d) e o = absurd o
      go (some r c) e o = rw (same, e) tt
      go (all r c) e o = rw (same, e) tt
      go top e o = absurd o
      go bottom e o = absurd o

  -- so the places before a term are as many
  places-kept : (i : ℕ) → i ≤ length ts → rank (opens? (shared_terms ts)) (kept_before i) ≡ rank (opens? ts) i
  unfolding rank
  places-kept zero l = refl
  places-kept (suc i) l =
      dite (kept? ts i)
      (λ k. rw (rank_yes (kept? ts) i k) (dite (opens? ts i)
      (λ o. rank_yes (opens? (shared_terms ts)) (kept_before i) ((opens_kept i (omega arith) k).1 o) ∙ ap suc (places-kept i (omega arith)) ∙ sym (rank_yes (opens? ts) i o))
      (λ n. rank_no (opens? (shared_terms ts)) (kept_before i) (λ o. n ((opens_kept i (omega arith) k).0 o)) ∙ places-kept i (omega arith) ∙ sym (rank_no (opens? ts) i n))))
      (λ n. rw (rank_no (kept? ts) i n) (places-kept i (omega arith) ∙ sym (rank_no (opens? ts) i (λ o. n (home-opens ts i (omega arith) o)))))

  sharing : Renumbered (shared_number ts) ts (shared_terms ts)
  unfolding places place_number
  sharing = record {
    lands = λ i l. let (g, e, n) = number-home i l in rw n (kept_lands (home ts i) g e);
    term_same = λ i l. let (g, e, n) = number-home i l in rw n (kept-term (home ts i) g e ∙ ap (renumber (shared_number ts)) (term-home ts i l));
    onto = λ j l. let (i, g, e, k) = kept_at j l in (i, g, number-kept i e ∙ k);
    places_same = ap (rank (opens? (shared_terms ts))) long ∙ places-kept (length ts) (omega arith);
    number_same = λ i l p. let (g, e, n) = number-home i l in
        let o : Opens (shared_terms ts) (kept_before (home ts i)) =
        (opens_kept (home ts i) g e).1 ((opens-home ts (home ts i) g).1 (rw (term-home ts i l) p, e)) in
        rw n (ap (rank (opens? (shared_terms ts))) (home-opens (shared_terms ts) (kept_before (home ts i)) (kept_lands (home ts i) g e) o) ∙ places-kept (home ts i) (omega arith));
  }

  -- and no name recurs
  pub shared_apart : (i j a : ℕ) → i < length (shared_terms ts) → j < length (shared_terms ts) → term (shared_terms ts) i ≡ name a → term (shared_terms ts) j ≡ name a
      → i ≡ j
  shared_apart i j a li lj ei ej =
      let (x, lx, hx, kx) = kept_at i li in
      let (y, ly, hy, ky) = kept_at j lj in
      let tx : term ts x ≡ name a = was x i lx hx kx ei in
      let ty : term ts y ≡ name a = was y j ly hy ky ej in
      let e : x ≡ y = sym hx ∙ home-first ts x a y lx tx ty (λ z m. home-none ts y a ly ty z (rw hy m)) in
      sym kx ∙ ap kept_before e ∙ ky
    where
      was : (x i : ℕ) → x < length ts → home ts x ≡ x → kept_before x ≡ i → term (shared_terms ts) i ≡ name a → term ts x ≡ name a
      was x i l h k e = renumber-name (shared_number ts) (term ts x) a (sym (kept-term x l h) ∙ rw k e)

  -- children stand below, as they did
  shared-ordered : Ordered ts → Ordered (shared_terms ts)
  shared-ordered o j l =
      let (i, g, e, k) = kept_at j l in
      subst (λ (z : ℕ). Children z (term (shared_terms ts) z)) k (subst (Children (kept_before i)) (sym (kept-term i g e)) (go i g (term ts i) (o i g)))
    where
      below : (i x : ℕ) → i < length ts → x < i → shared_number ts x < kept_before i
      below i x l h = let (_, e, n) = number-home x (omega arith) in rw n (rank_lt (kept? ts) (home ts x) i (omega (arith, home_no_later ts x (omega arith))) e)

      go : (i : ℕ) → i < length ts → (t : Term) → Children i t → Children (kept_before i) (renumber (shared_number ts) t)
      go i l (name a) h = tt
      go i l (not c) h = below i c l h
      go i l (and c d) h = (below i c l h.0, below i d l h.1)
      go i l (or c d) h = (below i c l h.0, below i d l h.1)
      go i l (some r c) h = below i c l h
      go i l (all r c) h = below i c l h
      go i l top h = tt
      go i l bottom h = tt

pub shared-book : (B : Book) → Valid B → RenumberedBook (shared_number B.grading.terms) B (shared B)
shared-book B v = record {
  formed = record { lawful = v.well_formed.lawful; ordered = shared-ordered B.grading.terms v.well_formed.ordered };
  terms_renumbered = sharing B.grading.terms;
  book_is = refl;
}

-- ---- a further, last term that repeats the name of term k

-- its number becomes that of the first term with the name
unfoldable pub without_last : (ts : List Term) (k : ℕ) → ℕ → ℕ
without_last ts k i = ite (dec_lt i (length ts)) i (home ts k)

renumber-none : (f : ℕ → ℕ) (i : ℕ) (t : Term) → Children i t → ((x : ℕ) → x < i → f x ≡ x) → t ≡ renumber f t
renumber-none f i (name a) h e = refl
renumber-none f i (not c) h e = rw (e c h)
renumber-none f i (and c d) h e = rw (e c h.0, e d h.1)
renumber-none f i (or c d) h e = rw (e c h.0, e d h.1)
renumber-none f i (some r c) h e = rw (e c h)
renumber-none f i (all r c) h e = rw (e c h)
renumber-none f i top h e = refl
renumber-none f i bottom h e = refl

module _ (ts : List Term) (o : Ordered ts) (k a : ℕ) (l : k < length ts) (e : term ts k ≡ name a) where
  abbrev more : List Term
  more = ts ++ (name a ∷ [])

  abbrev f : ℕ → ℕ
  f = without_last ts k

  pub without_before : (i : ℕ) → i < length ts → f i ≡ i
  unfolding without_last
  without_before i h = if_pos (dec_lt i (length ts)) h _ _

  without_last_lem : f (length ts) ≡ home ts k
  unfolding without_last
  without_last_lem = if_neg (dec_lt (length ts) (length ts)) (λ h. omega arith) _ _

  length_more : length more ≡ suc (length ts)
  length_more = rw (length-append ts (name a ∷ [])) (omega arith)

  term-more : (i : ℕ) → i < length ts → term more i ≡ term ts i
  term-more i h = get_or-append ts (name a ∷ []) bottom i h

  term-last : term more (length ts) ≡ name a
  term-last = get_or-append_seam ts (name a) [] bottom

  first_home : (i b : ℕ) → i < length ts → term ts i ≡ name b
      → (home ts i < length ts) × (term more (home ts i) ≡ name b) × ((j : ℕ) → j < home ts i → ¬ (term more j ≡ name b))
  first_home i b h q =
      let m : home ts i < length ts = omega (arith, home_no_later ts i h) in
      (m, term-more (home ts i) m ∙ term-home ts i h ∙ q, λ j g z. home-none ts i b h q j g (sym (term-more j (omega arith)) ∙ z))

  home-more : (i : ℕ) → i < length ts → home more i ≡ home ts i
  home-more i h =
      ⊎_elim (λ (b, q). let (_, t, n) = first_home i b h q in home-first more i b (home ts i) (rw length_more (omega arith)) (term-more i h ∙ q) t n)
      (λ z. home_other more i (rw (term-more i h) z) ∙ sym (home_other ts i z)) (name-or-none (term ts i))

  home-last : home more (length ts) ≡ home ts k
  home-last = let (_, t, n) = first_home k a l e in home-first more (length ts) a (home ts k) (rw length_more (omega arith)) term-last t n

  opens-more : (i : ℕ) → i < length ts → Opens more i ↔ Opens ts i
  opens-more i h =
      let u = opens-home more i (rw length_more (omega arith)) in
      let v = opens-home ts i h in (
        λ p. v.1 (rw (← term-more i h) (u.0 p).0, sym (home-more i h) ∙ (u.0 p).1),
        λ p. u.1 (rw (term-more i h) (v.0 p).0, home-more i h ∙ (v.0 p).1),
      )

  ranks_more : (i : ℕ) → i ≤ length ts → rank (opens? more) i ≡ rank (opens? ts) i
  ranks_more i h = rank_same (opens? more) (opens? ts) i (λ j g. opens-more j (omega arith))

  last-opens-none : ¬ Opens more (length ts)
  last-opens-none p = omega (arith, home-opens more (length ts) (rw length_more (omega arith)) p, home-last, home_no_later ts k l)

  without : Renumbered f more ts
  unfolding places place_number
  without = record {
    lands = λ i h. dite (dec_lt i (length ts)) (λ g. rw (without_before i g) g) (λ n. rw (last i h n, without_last_lem) (omega (arith, home_no_later ts k l)));
    term_same = λ i h. dite (dec_lt i (length ts))
        (λ g. rw (without_before i g, term-more i g) (renumber-none f i (term ts i) (o i g) (λ x m. without_before x (omega arith))))
        (λ n. rw (last i h n, without_last_lem, term-last) (term-home ts k l ∙ e));
    onto = λ j h. (j, rw length_more (omega arith), without_before j h);
    places_same = sym (ap (rank (opens? more)) length_more ∙ rank_no (opens? more) (length ts) last-opens-none ∙ ranks_more (length ts) (omega arith));
    number_same = λ i h p. dite (dec_lt i (length ts))
        (λ g. rw (without_before i g, home-more i g) (sym (ranks_more (home ts i) (omega (arith, home_no_later ts i g)))))
        (λ n. rw (last i h n, without_last_lem, home-last, home-home ts k l) (sym (ranks_more (home ts k) (omega (arith, home_no_later ts k l)))));
  }
    where
      last : (i : ℕ) → i < length more → ¬ (i < length ts) → i ≡ length ts
      last i h n = omega (arith, length_more)

pub book_without : (C : Book) (k a : ℕ) → Valid C → k < length C.grading.terms → term C.grading.terms k ≡ name a
    → RenumberedBook (without_last C.grading.terms k) (with_term (name a) C) C
book_without C k a v l e =
    let ts = C.grading.terms in
    let f = without_last ts k in
    let o = v.well_formed.ordered in
    let before = without_before ts o k a l e in record {
      formed = v.well_formed;
      terms_renumbered = without ts o k a l e;
      book_is =
          ap₂ (λ (rs : List Rule) (ms : List MembershipClaim). record { grading = C.grading; rules = rs; pairs = C.pairs; memberships = ms; links = C.links })
          (sym (map-each-same (renumber_rule f) (λ r h. rw (before r.left h.0, before r.right h.1)) C.rules v.rules_in))
          (sym (map-each-same (renumber_claim f) (λ m h. rw (before m.term h)) C.memberships v.terms_in_range));
    }
