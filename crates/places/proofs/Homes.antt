-- Laws of the homes of a section's terms, and of the names noted on the way.
-- Assumes nothing.
use mathlib.Core.Path.{◌≡◌, refl, sym, ap, subst, ◌∙◌}
use mathlib.Core.Logic.{inl, inr, ⊎_elim, dite}
use mathlib.Core.List.{List}
use Prim.Native.Nat.{ℕ, zero, suc, ◌+◌, ◌<◌}
use native.Mathlib.Decide.{ℕ_discrete}
use native.Mathlib.Numerals.{add-one}
use native.Mathlib.Omega.{arith}
use lib.ListN.{length, get_or, set, replicate}
use borrow.Author.Count.{below_more}
use lib.Seq.{get_or-set_same, get_or-set_other}
use Rattle.chain.specs.Search.{First, first}
use Rattle.chain.proofs.Search.{below_cases}
use Rattle.semantics.specs.Terms.{Term, name, term}
use Rattle.semantics.specs.Books.{name_above}
use Rattle.types.specs.Candidates.{named?, home}
use Rattle.types.proofs.Candidates.{home-first, home_other}
use Rattle.std.specs.Prelude.{Option, Some, None}
use Rattle.sections.specs.Terms.{term_count, term_at, terms_of}
use Rattle.sections.proofs.Terms.{length-terms, term-at}
use Rattle.places.specs.Homes.{note_of, Noted}

-- ---- what is noted of a name

module _ (ts : List Term) (a : ℕ) where
  -- no term before number x has the name
  abbrev NoneBefore : ℕ → Type 0
  NoneBefore x = (j : ℕ) → j < x → ¬ (term ts j ≡ name a)

  abbrev noted : (i : ℕ) → First (named? ts a) i → Option ℕ
  noted i = ⊎_elim (λ w. Some w.0) (λ _. None)

  note_none : (i : ℕ) → NoneBefore i → note_of ts i a ≡ None
  unfolding note_of
  note_none i n = go (first (named? ts a) i)
    where
      go : (v : First (named? ts a) i) → noted i v ≡ None
      go (inl w) = absurd (n w.0 w.1 w.2)
      go (inr f) = refl

  note_first : (i x : ℕ) → x < i → term ts x ≡ name a → NoneBefore x → note_of ts i a ≡ Some x
  unfolding note_of
  note_first i x l e n = go (first (named? ts a) i)
    where
      go : (v : First (named? ts a) i) → noted i v ≡ Some x
      go (inl w) =
          let p : ¬ (w.0 < x) = λ h. n w.0 h w.2 in
          let q : ¬ (x < w.0) = λ h. w.3 x h e in
          ap (λ (k : ℕ). Some k) (omega arith)
      go (inr f) = absurd (f x l e)

  -- what a note says
  abbrev Says : (i : ℕ) (n : Option ℕ) → Type 0
  Says i None = NoneBefore i
  Says i (Some x) = (x < i) × (term ts x ≡ name a) × NoneBefore x

  note_says : (i : ℕ) → Says i (note_of ts i a)
  unfolding note_of
  note_says i = go (first (named? ts a) i)
    where
      go : (v : First (named? ts a) i) → Says i (noted i v)
      go (inl w) = (w.1, w.2, w.3)
      go (inr f) = f

  -- a term of another name, or of none, changes nothing
  note_other : (i : ℕ) → ¬ (term ts i ≡ name a) → note_of ts i a ≡ note_of ts (suc i) a
  note_other i n = go (note_of ts i a) (note_says i)
    where
      go : (m : Option ℕ) → Says i m → m ≡ note_of ts (suc i) a
      go None w = sym (note_none (suc i) (λ j l. ⊎_elim (λ e f. n (subst (λ (k : ℕ). term ts k ≡ name a) e f)) (w j) (below_cases i j l)))
      go (Some x) (l, e, f) = sym (note_first (suc i) x (omega arith) e f)

nothing : (k a : ℕ) → get_or {A = Option ℕ} (replicate k None) a None ≡ None
nothing zero a = refl
nothing (suc k) zero = refl
nothing (suc k) (suc a) = nothing k a

pub none-noted : (ts : List Term) → Noted ts 0 (replicate 16 None)
none-noted ts a h = nothing 16 a ∙ sym (note_none ts a 0 (λ j l. absurd (omega arith)))

-- ---- one term more

module _ (s : List ℕ) (i : ℕ) (h : i < term_count s) (firsts : List (Option ℕ)) (all : Noted (terms_of s) i firsts) where
  abbrev ts : List Term
  ts = terms_of s

  below : i < length ts
  below = rw (length-terms s) h

  -- a term that is no name
  module _ (n : name_above (term_at s i) ≡ 0) where
    unnamed : name_above (term ts i) ≡ 0
    unnamed = rw (term-at s i h) n

    pub other_home : home ts i ≡ i
    other_home = home_other ts i unnamed

    pub other_noted : Noted ts (i + 1) firsts
    other_noted a g = rw (add-one i) (all a g ∙ note_other ts a i (λ e. absurd (omega (arith, unnamed, ap name_above e))))

  -- a name
  module _ (c : ℕ) (few : c < 16) (is : name c ≡ term_at s i) where
    named : term ts i ≡ name c
    named = term-at s i h ∙ sym is

    others : (a : ℕ) → a < 16 → ¬ (a ≡ c) → get_or firsts a None ≡ note_of ts (suc i) a
    others a g n = all a g ∙ note_other ts a i (λ e. n (omega (arith, ap name_above (sym e ∙ named))))

    says : Says ts c i (get_or firsts c None)
    says = subst (Says ts c i) (sym (all c few)) (note_says ts c i)

    -- that was noted
    module _ (x : ℕ) (k : get_or firsts c None ≡ Some x) where
      found : (x < i) × (term ts x ≡ name c) × NoneBefore ts c x
      found = subst (Says ts c i) k says

      pub known-home : home ts i ≡ x
      known-home = home-first ts i c x below named found.1 found.2

      pub known-noted : Noted ts (i + 1) firsts
      known-noted a g =
          rw (add-one i) (dite (ℕ_discrete a c) (λ e. rw e (k ∙ sym (note_first ts c (suc i) x (omega (arith, found.0)) found.1 found.2))) (others a g))

    -- a new one
    module _ (k : get_or firsts c None ≡ None) where
      new : NoneBefore ts c i
      new = subst (Says ts c i) k says

      pub new_home : home ts i ≡ i
      new_home = home-first ts i c i below named named new

      pub new-noted : length firsts ≡ 16 → Noted ts (i + 1) (set firsts c (Some i))
      new-noted room a g =
          rw (add-one i) (dite (ℕ_discrete a c)
          (λ e. rw e (get_or-set_same firsts c (Some i) None (omega (arith, room)) ∙ sym (note_first ts c (suc i) i (omega arith) named new)))
          (λ n. get_or-set_other firsts c a (Some i) None n ∙ others a g n))

-- the home of one term more is filled in
pub filled_more : (ts : List Term) (homes : List ℕ) (i x : ℕ) → i < length homes → x ≡ home ts i → ((j : ℕ) → j < i → get_or homes j 0 ≡ home ts j)
    → (j : ℕ) → j < i + 1 → get_or (set homes i x) j 0 ≡ home ts j
filled_more ts homes i x l e f =
    below_more (λ j. get_or (set homes i x) j 0 ≡ home ts j) i (λ j h. get_or-set_other homes i j x 0 (omega arith) ∙ f j h) (get_or-set_same homes i x 0 l ∙ e)
