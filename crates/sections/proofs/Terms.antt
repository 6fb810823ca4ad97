-- Laws of the terms' section: what "as described" comes to for each kind, and what the section's terms are.
-- Assumes nothing.
use mathlib.Core.Path.{◌≡◌, refl, sym, ap, ap₂, subst, ◌∙◌}
use mathlib.Core.Bool.{Bool}
use mathlib.Core.Logic.{◌⊎◌, ⊎_elim, dite}
use mathlib.Core.List.{List, [], ◌∷◌, ◌++◌, flat_map}
use Prim.Native.Nat.{ℕ, zero, suc, ◌+◌, ◌*◌, ◌≤◌, ◌<◌}
use native.Mathlib.Nat.{add-zero}
use native.Mathlib.Decide.{dec_lt}
use native.Mathlib.Omega.{arith}
use lib.ListN.{length, get_or, length-append, get_or-append, get_or-eq_default}
use lib.Seq.{get_or-append_seam, get_or-append-add}
use Rattle.chain.specs.Decisions.{Tells}
use Rattle.chain.specs.Lists.{highest, table}
use Rattle.chain.specs.Connectives.{Quantifier, existential, universal}
use Rattle.chain.proofs.Search.{below_cases}
use Rattle.chain.proofs.Lists.{length-table, get_or-table, table_same, table-snoc, highest-most}
use Rattle.chain.proofs.Blocks.{blocks_whole}
use Rattle.semantics.specs.Terms.{Term, name, not, and, or, some, all, top, bottom, term, Children, Ordered}
use Rattle.semantics.specs.Quantified.{quantified}
use Rattle.semantics.specs.Books.{name_above, role_above}
use Rattle.sections.specs.Terms.{term_of, quantifier_of, Described, kind_at, a_at, b_at, term_count, term_at, terms_of, TermRight, TermsRight}

-- the kind of a described term is 0 to 7
pub described-kind : (i kind a b : ℕ) → Described i kind a b → kind < 8
described-kind i kind a b d =
    dite (dec_lt kind 8) (λ h. h) (λ n. absurd (omega (arith, d.0, get_or-eq_default (16 ∷ i ∷ i ∷ i ∷ 8 ∷ 8 ∷ 1 ∷ 1 ∷ []) 0 {n = kind} (omega arith))))

-- where the kind is known, each operand has its bound
module _ (r : Bool) (kind i a b : ℕ) where
  pub described-at : (k : ℕ) → kind ≡ k → Tells r (Described i k a b) → Tells r (Described i kind a b)
  described-at k e t = subst (λ (z : ℕ). Tells r (Described i z a b)) (sym e) t

-- ---- by kinds

-- what holds of each kind's term, with the number of the kind, and of no term's kind above them, holds of three bytes
pub by_kind : (P : ℕ → Term → Type 0) (a b : ℕ) → P 0 (name a) → P 1 (not a) → P 2 (and a b) → P 3 (or a b) → P 4 (some a b) → P 5 (all a b)
    → P 6 top → P 7 bottom → ((k : ℕ) → 8 ≤ k → P k bottom) → (kind : ℕ) → P kind (term_of kind a b)
by_kind P a b p0 p1 p2 p3 p4 p5 p6 p7 p8 zero = p0
by_kind P a b p0 p1 p2 p3 p4 p5 p6 p7 p8 (suc zero) = p1
by_kind P a b p0 p1 p2 p3 p4 p5 p6 p7 p8 (suc (suc zero)) = p2
by_kind P a b p0 p1 p2 p3 p4 p5 p6 p7 p8 (suc (suc (suc zero))) = p3
by_kind P a b p0 p1 p2 p3 p4 p5 p6 p7 p8 (suc (suc (suc (suc zero)))) = p4
by_kind P a b p0 p1 p2 p3 p4 p5 p6 p7 p8 (suc (suc (suc (suc (suc zero))))) = p5
by_kind P a b p0 p1 p2 p3 p4 p5 p6 p7 p8 (suc (suc (suc (suc (suc (suc zero)))))) = p6
by_kind P a b p0 p1 p2 p3 p4 p5 p6 p7 p8 (suc (suc (suc (suc (suc (suc (suc zero))))))) = p7
by_kind P a b p0 p1 p2 p3 p4 p5 p6 p7 p8 (suc (suc (suc (suc (suc (suc (suc (suc k)))))))) = p8 (suc (suc (suc (suc (suc (suc (suc (suc k)))))))) (omega arith)

-- a term's kind, by its number
abbrev pub kind_number : Term → ℕ
kind_number (name a) = 0
kind_number (not c) = 1
kind_number (and c d) = 2
kind_number (or c d) = 3
kind_number (some r c) = 4
kind_number (all r c) = 5
kind_number top = 6
kind_number bottom = 7

pub kind-number : (kind a b : ℕ) → kind < 8 → kind_number (term_of kind a b) ≡ kind
kind-number kind a b =
    by_kind (λ k t. k < 8 → kind_number t ≡ k) a b (λ _. refl) (λ _. refl) (λ _. refl) (λ _. refl) (λ _. refl) (λ _. refl) (λ _. refl) (λ _. refl)
    (λ k h l. omega arith) kind

-- no other kind is described
pub described_other : (i kind a b : ℕ) → ¬ (kind ≡ 0) → ¬ (kind ≡ 1) → ¬ (kind ≡ 2) → ¬ (kind ≡ 3) → ¬ (kind ≡ 4) → ¬ (kind ≡ 5) → ¬ (kind ≡ 6) → ¬ (kind ≡ 7)
    → ¬ Described i kind a b
described_other i kind a b n0 n1 n2 n3 n4 n5 n6 n7 d =
    by_kind (λ k t. k ≡ kind → k < 8 → ⊥) a b (λ e _. n0 (sym e)) (λ e _. n1 (sym e)) (λ e _. n2 (sym e)) (λ e _. n3 (sym e)) (λ e _. n4 (sym e))
    (λ e _. n5 (sym e)) (λ e _. n6 (sym e)) (λ e _. n7 (sym e)) (λ k h e l. omega arith) kind refl (described-kind i kind a b d)

-- ---- a term of the section by its kind

module _ (s : List ℕ) (i : ℕ) where
  -- the term, where its kind is known
  pub term-kind : (k : ℕ) → kind_at s i ≡ k → term_at s i ≡ term_of k (a_at s i) (b_at s i)
  term-kind k e = ap (λ (z : ℕ). term_of z (a_at s i) (b_at s i)) e

  pub range_kind : TermsRight s → i < term_count s → (k : ℕ) → kind_at s i ≡ k → Described i k (a_at s i) (b_at s i)
  range_kind ok h k e = subst (λ (z : ℕ). Described i z (a_at s i) (b_at s i)) e (ok i h)

-- ---- the section's terms

module _ (s : List ℕ) where
  pub length-terms : length (terms_of s) ≡ term_count s
  unfolding terms_of
  length-terms = length-table (term_at s) (term_count s)

  pub term-at : (i : ℕ) → i < term_count s → term (terms_of s) i ≡ term_at s i
  unfolding terms_of
  term-at i h = get_or-table (term_at s) (term_count s) i bottom h

  -- n terms, each written as its three bytes, are the section
  pub terms-bytes : (f : Term → List ℕ) (n : ℕ) → length s ≡ 3 * n
      → ((i : ℕ) → i < term_count s → f (term_at s i) ≡ kind_at s i ∷ a_at s i ∷ b_at s i ∷ [])
      → (flat_map f (terms_of s) ≡ s) × (length (terms_of s) ≡ n)
  unfolding terms_of table
  terms-bytes f n e h = blocks_whole f 3 n 0 (term_at s) s (omega arith) e (λ i l. let w = h i l in cc (add-zero (3 * i)))

  module _ (ok : TermsRight s) where
    -- check 6 establishes what the theory asks: children stand below
    pub terms-ordered : Ordered (terms_of s)
    terms-ordered i l =
        let h : i < term_count s = rw (← length-terms) l in
        subst (Children i) (sym (term-at i h))
        (by_kind (λ k t. Described i k (a_at s i) (b_at s i) → Children i t) (a_at s i) (b_at s i)
        (λ _. tt) (λ d. d.0) (λ d. d) (λ d. d) (λ d. d.1) (λ d. d.1) (λ _. tt) (λ _. tt) (λ k _ _. tt) (kind_at s i) (ok i h))

    -- a term that is a name has kind 0 and the name's number
    pub name-bytes : (i a : ℕ) → i < term_count s → term (terms_of s) i ≡ name a → (kind_at s i ≡ 0) × (a_at s i ≡ a)
    name-bytes i a h e =
        let t : term_at s i ≡ name a = sym (term-at i h) ∙ e in
        let k : kind_at s i ≡ 0 = sym (kind-number (kind_at s i) (a_at s i) (b_at s i) (described-kind i _ _ _ (ok i h))) ∙ ap kind_number t in
        (k, omega (arith, ap name_above (sym (term-kind s i 0 k) ∙ t)))

    -- the names are 0 to 15, and the roles 0 to 7
    pub names-few : highest name_above (terms_of s) ≤ 16
    unfolding terms_of
    names-few =
        highest-most name_above (term_at s) (term_count s) 16 (λ i l.
        by_kind (λ k t. Described i k (a_at s i) (b_at s i) → name_above t ≤ 16) (a_at s i) (b_at s i)
        (λ d. d.0) none none none none none none none (λ k _. none) (kind_at s i) (ok i l))
      where
        none : {A : Type 0} → A → 0 ≤ 16
        none _ = omega arith

    pub roles_few : highest role_above (terms_of s) ≤ 8
    unfolding terms_of
    roles_few =
        highest-most role_above (term_at s) (term_count s) 8 (λ i l.
        by_kind (λ k t. Described i k (a_at s i) (b_at s i) → role_above t ≤ 8) (a_at s i) (b_at s i)
        none none none none (λ d. d.0) (λ d. d.0) none none (λ k _. none) (kind_at s i) (ok i l))
      where
        none : {A : Type 0} → A → 0 ≤ 8
        none _ = omega arith

-- ---- one term more, at the end

module _ (s : List ℕ) (n : ℕ) (whole : length s ≡ 3 * n) (k a b : ℕ) where
  abbrev more : List ℕ
  more = s ++ (k ∷ a ∷ b ∷ [])

  pub count_more : term_count more ≡ suc n
  count_more = omega (arith, length-append s (k ∷ a ∷ b ∷ []))

  count_before : term_count s ≡ n
  count_before = omega arith

  byte-before : (j : ℕ) → j < 3 * n → get_or more j 0 ≡ get_or s j 0
  byte-before j h = get_or-append s (k ∷ a ∷ b ∷ []) 0 j (omega arith)

  kind-last : kind_at more n ≡ k
  kind-last = rw whole at (get_or-append_seam s k (a ∷ b ∷ []) 0)

  byte_last : (j : ℕ) → get_or more (3 * n + j) 0 ≡ get_or (k ∷ a ∷ b ∷ []) j 0
  byte_last j = rw whole at (get_or-append-add s (k ∷ a ∷ b ∷ []) j 0)

  pub terms-more : terms_of more ≡ terms_of s ++ (term_of k a b ∷ [])
  unfolding terms_of
  terms-more =
      rw (count_more, count_before) (table-snoc (term_at more) n
      ∙ ap₂ (λ (ts : List Term) (t : Term). ts ++ (t ∷ []))
      (table_same (term_at more) (term_at s) n (λ i h. rw (byte-before (3 * i) (omega arith), byte-before (3 * i + 1) (omega arith), byte-before (3 * i + 2) (omega arith))))
      (rw (kind-last, byte_last 1, byte_last 2)))

  pub right-more : TermsRight s → Described n k a b → TermsRight more
  right-more ok d i h = ⊎_elim last before (below_cases n i (omega (arith, count_more)))
    where
      last : i ≡ n → TermRight more i
      last e = rw e (rw (kind-last, byte_last 1, byte_last 2) d)

      before : i < n → TermRight more i
      before l =
          rw (byte-before (3 * i) (omega arith), byte-before (3 * i + 1) (omega arith), byte-before (3 * i + 2) (omega arith)) (ok i (omega (arith, count_before)))

-- ---- by the kind of a quantified term

module _ (P : Quantifier → Type 0) (k : ℕ) where
  pub by_some : k ≡ 4 → P existential → P (quantifier_of k)
  by_some e = subst (λ (z : ℕ). P (quantifier_of z)) (sym e)

  pub by_all : 4 ≤ k → k ≤ 5 → ¬ (k ≡ 4) → P universal → P (quantifier_of k)
  by_all h g n = let e : k ≡ 5 = omega arith in subst (λ (z : ℕ). P (quantifier_of z)) (sym e)

pub quantified-term : (s : List ℕ) (i : ℕ) → i < term_count s → 4 ≤ kind_at s i → kind_at s i ≤ 5
    → term (terms_of s) i ≡ quantified (quantifier_of (kind_at s i)) (a_at s i) (b_at s i)
quantified-term s i h l g =
    term-at s i h
    ∙ by_kind (λ k t. 4 ≤ k → k ≤ 5 → t ≡ quantified (quantifier_of k) (a_at s i) (b_at s i)) (a_at s i) (b_at s i)
    (λ a b. absurd (omega arith)) (λ a b. absurd (omega arith)) (λ a b. absurd (omega arith)) (λ a b. absurd (omega arith)) (λ _ _. refl) (λ _ _. refl)
    (λ a b. absurd (omega arith)) (λ a b. absurd (omega arith)) (λ k n a b. absurd (omega arith)) (kind_at s i) l g

-- and a term of another kind is none
pub other_term : (s : List ℕ) (i : ℕ) → i < term_count s → (kind_at s i < 4) ⊎ (5 < kind_at s i) → (q : Quantifier) (r x : ℕ)
    → ¬ (term (terms_of s) i ≡ quantified q r x)
other_term s i h n q r x e =
    by_kind (λ k t. (k < 4) ⊎ (5 < k) → t ≡ quantified q r x → ⊥) (a_at s i) (b_at s i) (λ _ f. small 0 (ap kind_number f) (omega arith))
    (λ _ f. small 1 (ap kind_number f) (omega arith)) (λ _ f. small 2 (ap kind_number f) (omega arith)) (λ _ f. small 3 (ap kind_number f) (omega arith))
    (λ m _. ⊎_elim (λ l. omega arith) (λ l. omega arith) m) (λ m _. ⊎_elim (λ l. omega arith) (λ l. omega arith) m)
    (λ _ f. large 6 (ap kind_number f) (omega arith)) (λ _ f. large 7 (ap kind_number f) (omega arith)) (λ k _ _ f. large 7 (ap kind_number f) (omega arith))
    (kind_at s i) n (sym (term-at s i h) ∙ e)
  where
    kinds : (q : Quantifier) → (4 ≤ kind_number (quantified q r x)) × (kind_number (quantified q r x) ≤ 5)
    kinds existential = (omega arith, omega arith)
    kinds universal = (omega arith, omega arith)

    small : (k : ℕ) → k ≡ kind_number (quantified q r x) → k < 4 → ⊥
    small k f l = omega (arith, (kinds q).0)

    large : (k : ℕ) → k ≡ kind_number (quantified q r x) → 5 < k → ⊥
    large k f l = omega (arith, (kinds q).1)
