-- Laws of places: which terms open one, and how many, one term more.
-- Assumes nothing.
use mathlib.Core.Path.{◌≡◌, refl, sym, ap, subst}
use mathlib.Core.Bool.{Bool}
use mathlib.Core.List.{List, []}
use Prim.Native.Nat.{ℕ, ◌+◌, ◌^◌, ◌<◌}
use native.Mathlib.Numerals.{add-one}
use Rattle.chain.specs.Decisions.{Tells}
use Rattle.chain.specs.Search.{rank}
use Rattle.chain.proofs.Search.{rank-none, rank_yes, rank_no}
use Rattle.semantics.specs.Terms.{Term}
use Rattle.semantics.specs.Interpretations.{graded}
use Rattle.types.specs.Candidates.{place, HasPlace, Opens, opens?, places, home, candidates}
use Rattle.types.proofs.Candidates.{opens-home}
use Rattle.sections.specs.Terms.{kind_at, a_at, b_at, term_count, term_at, terms_of}
use Rattle.sections.proofs.Terms.{by_kind, length-terms, term-at}

-- ---- a term of the section

module _ (s : List ℕ) (i : ℕ) where
  pub other_kind : ¬ (kind_at s i ≡ 0) → ¬ (kind_at s i ≡ 4) → ¬ (kind_at s i ≡ 5) → ¬ HasPlace (place (term_at s i))
  other_kind =
      by_kind (λ k t. ¬ (k ≡ 0) → ¬ (k ≡ 4) → ¬ (k ≡ 5) → ¬ HasPlace (place t)) (a_at s i) (b_at s i) (λ n _ _ _. n refl) (λ _ _ _ z. z)
      (λ _ _ _ z. z) (λ _ _ _ z. z) (λ _ n _ _. n refl) (λ _ _ n _. n refl) (λ _ _ _ z. z) (λ _ _ _ z. z) (λ _ _ _ _ _ z. z) (kind_at s i)

  -- it opens a place where it is one and its own home
  module _ (h : i < term_count s) where
    pub opens_not : ¬ HasPlace (place (term_at s i)) → ¬ Opens (terms_of s) i
    opens_not n o = n (subst (λ (t : Term). HasPlace (place t)) (term-at s i h) ((opens-home (terms_of s) i (rw (length-terms s) h)).0 o).0)

    pub opens_where : (b : Bool) → HasPlace (place (term_at s i)) → Tells b (home (terms_of s) i ≡ i) → Tells b (Opens (terms_of s) i)
    opens_where b p t =
        let u = opens-home (terms_of s) i (rw (length-terms s) h) in
        (λ e. u.1 (subst (λ (x : Term). HasPlace (place x)) (sym (term-at s i h)) p, t.0 e), λ e o. t.1 e (u.0 o).1)

-- ---- places, one term more

-- how many of the terms before number i open a place
abbrev pub open_before : List Term → ℕ → ℕ
open_before ts = rank (opens? ts)

module _ (ts : List Term) where
  pub none_open : open_before ts 0 ≡ 0
  none_open = rank-none (opens? ts)

  pub open_more : (i : ℕ) → Opens ts i → open_before ts i + 1 ≡ open_before ts (i + 1)
  open_more i o = rw (add-one i, add-one) (sym (rank_yes (opens? ts) i o))

  pub open_same : (i : ℕ) → ¬ Opens ts i → open_before ts i ≡ open_before ts (i + 1)
  open_same i n = rw (add-one i) (sym (rank_no (opens? ts) i n))

pub all_open : (s : List ℕ) → open_before (terms_of s) (term_count s) ≡ places (terms_of s)
unfolding places
all_open s = ap (open_before (terms_of s)) (sym (length-terms s))

pub candidates_power : (N : ℕ) (ts : List Term) → (N + 1) ^ places ts ≡ candidates (graded N ts [])
unfolding candidates
candidates_power N ts = refl
