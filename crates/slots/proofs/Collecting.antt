-- Laws of collecting the slots.
-- Assumes nothing.
use mathlib.Core.Path.{◌≡◌, refl, sym, ap, subst, ◌∙◌}
use mathlib.Core.Logic.{◌⊎◌, inl, inr, dite}
use mathlib.Core.List.{List, [], ◌∷◌, ◌++◌}
use Prim.Native.Nat.{ℕ, suc, ◌+◌, ◌-◌, ◌*◌, ◌^◌, ◌≤◌, ◌<◌}
use native.Mathlib.Nat.{not-suc-le-zero, pow-le-pow_left, pow-le-pow_right}
use native.Mathlib.Numerals.{add-one}
use native.Mathlib.Decide.{dec_lt}
use native.Mathlib.Omega.{arith}
use Rattle.std.proofs.Common.{append_assoc}
use lib.ListN.{length, get_or, set, take, drop, length-set}
use lib.Seq.{get_or-set_same, get_or-set_other, get_or-take, length-take-le, drop-drop, sets-eq}
use borrow.Author.Count.{below_more}
use Rattle.chain.specs.Search.{rank}
use Rattle.chain.specs.Connectives.{Quantifier, existential, universal}
use Rattle.chain.proofs.Search.{rank_yes, rank_mono}
use Rattle.semantics.specs.Terms.{Term, term}
use Rattle.semantics.specs.Quantified.{quantified}
use Rattle.semantics.proofs.Quantified.{quantified_alike}
use Rattle.semantics.specs.Interpretations.{Grading}
use Rattle.types.specs.Candidates.{place, quantifying, candidates, places, opens?}
use Rattle.types.proofs.Candidates.{home-quantifying}
use Rattle.sections.specs.Terms.{quantifier_of, kind_at, a_at, b_at, term_count, term_at, terms_of}
use Rattle.sections.proofs.Terms.{length-terms, term-at, quantified-term, other_term}
use Rattle.slots.specs.Slots.{slot_count, slot_kind, slot_role, slot_child, slot_term, SlotsOf}
use Rattle.slots.specs.Collecting.{IsSlot, SlotsCollected, with_slot}

-- at most 16384 candidates come of at most 14 places
pub places-few : (G : Grading) → 1 ≤ G.steps → candidates G ≤ 16384 → places G.terms ≤ 14
unfolding candidates
places-few G h l = go (places G.terms) refl
  where
    go : (p : ℕ) → places G.terms ≡ p → p ≤ 14
    go p e =
        let big : ¬ (15 ≤ p) = λ g.
        let a : 2 ^ 15 ≤ 2 ^ p = pow-le-pow_right (omega arith) g in
        let b : 2 ^ p ≤ (G.steps + 1) ^ p = pow-le-pow_left (omega arith) p in
        omega (arith, subst (λ (z : ℕ). (G.steps + 1) ^ z ≤ 16384) e l)
        in omega arith

-- ---- collecting

pub slots-none : (ts : List Term) (slots : List ℕ) → SlotsCollected ts slots 0 0
slots-none ts slots = record { few = omega arith; are = λ q h. absurd (not-suc-le-zero h); onto = λ i h. absurd (not-suc-le-zero h) }

-- four bytes written over the part from 4 m on are the slot
pub slot-written : (s new : List ℕ) (m k r x i : ℕ) → 4 * m + 4 ≤ length s → new ≡ k ∷ r ∷ x ∷ i ∷ []
    → take (4 * m) s ++ (new ++ drop (4 * m + 4 - 4 * m) (drop (4 * m) s)) ≡ with_slot s m k r x i
slot-written s new m k r x i h e =
    let width : 4 * m + 4 - 4 * m ≡ 4 = omega arith in
    let one : suc (4 * m) ≡ 4 * m + 1 = omega arith in
    let two : suc (suc (4 * m)) ≡ 4 * m + 2 = omega arith in
    let three : suc (suc (suc (4 * m))) ≡ 4 * m + 3 = omega arith in
    rw (e, width, drop-drop) (sym (rw (three, two, one, append_assoc) at (sets-eq (k ∷ r ∷ x ∷ i ∷ []) s (4 * m) h)))

-- what slot m is written as, and the slots before it
module _ (s : List ℕ) (m k r x i : ℕ) where
  abbrev p1 : List ℕ
  p1 = set s (4 * m) k

  abbrev p2 : List ℕ
  p2 = set p1 (4 * m + 1) r

  abbrev p3 : List ℕ
  p3 = set p2 (4 * m + 2) x

  written-before : (j : ℕ) → j < 4 * m → get_or (with_slot s m k r x i) j 0 ≡ get_or s j 0
  written-before j h =
      get_or-set_other p3 (4 * m + 3) j i 0 (omega arith) ∙ get_or-set_other p2 (4 * m + 2) j x 0 (omega arith)
      ∙ get_or-set_other p1 (4 * m + 1) j r 0 (omega arith) ∙ get_or-set_other s (4 * m) j k 0 (omega arith)

  module _ (l : 4 * m + 4 ≤ length s) where
    written-kind : slot_kind (with_slot s m k r x i) m ≡ k
    written-kind =
        get_or-set_other p3 (4 * m + 3) (4 * m) i 0 (omega arith) ∙ get_or-set_other p2 (4 * m + 2) (4 * m) x 0 (omega arith)
        ∙ get_or-set_other p1 (4 * m + 1) (4 * m) r 0 (omega arith) ∙ get_or-set_same s (4 * m) k 0 (omega arith)

    written-role : slot_role (with_slot s m k r x i) m ≡ r
    written-role =
        get_or-set_other p3 (4 * m + 3) (4 * m + 1) i 0 (omega arith) ∙ get_or-set_other p2 (4 * m + 2) (4 * m + 1) x 0 (omega arith)
        ∙ get_or-set_same p1 (4 * m + 1) r 0 (simp length-set (omega arith))

    written-child : slot_child (with_slot s m k r x i) m ≡ x
    written-child = get_or-set_other p3 (4 * m + 3) (4 * m + 2) i 0 (omega arith) ∙ get_or-set_same p2 (4 * m + 2) x 0 (simp length-set (omega arith))

    written-term : slot_term (with_slot s m k r x i) m ≡ i
    written-term = get_or-set_same p3 (4 * m + 3) i 0 (simp length-set (omega arith))

same4 : (P : ℕ → ℕ → ℕ → ℕ → Type 0) (a b c d e f g h : ℕ) → a ≡ e → b ≡ f → c ≡ g → d ≡ h → P a b c d → P e f g h
same4 P a b c d e f g h p q r t x =
    subst (λ (z : ℕ). P e f g z) t (subst (λ (z : ℕ). P e f z d) r (subst (λ (z : ℕ). P e z c d) q (subst (λ (z : ℕ). P z b c d) p x)))

module _ (s slots : List ℕ) (i m : ℕ) (h : i < term_count s) (C : SlotsCollected (terms_of s) slots i m) where
  abbrev ts : List Term
  ts = terms_of s

  -- another term
  pub slots_other : ((k : Quantifier) (r x : ℕ) → ¬ (term_at s i ≡ quantified k r x)) → SlotsCollected ts slots (i + 1) m
  slots_other n = record {
    few = omega (arith, C.few, rank_mono (opens? ts) i (i + 1) (omega arith));
    are = C.are;
    onto = below_more (λ j. (k : Quantifier) (r x : ℕ) → term ts j ≡ quantified k r x → (q : ℕ) × (q < m) × (slot_term slots q ≡ j)) i C.onto
        (λ k r x e. absurd (n k r x (sym (term-at s i h) ∙ e)));
  }

  -- a quantified one
  module _ (n : (4 ≤ kind_at s i) × (kind_at s i ≤ 5)) where
    is : term ts i ≡ quantified (quantifier_of (kind_at s i)) (a_at s i) (b_at s i)
    is = quantified-term s i h n.0 n.1

    -- it is a place
    one_more : rank (opens? ts) (i + 1) ≡ suc (rank (opens? ts) i)
    one_more =
        ap (rank (opens? ts)) (add-one i)
        ∙ rank_yes (opens? ts) i (home-quantifying ts i (ap place is ∙ go (quantifier_of (kind_at s i)))).1
      where
        go : (k : Quantifier) → place (quantified k (a_at s i) (b_at s i)) ≡ quantifying
        go existential = refl
        go universal = refl

    slots-room : m + 1 ≤ places ts
    unfolding places
    slots-room = let l : i + 1 ≤ length ts = rw (length-terms s) (omega arith) in omega (arith, C.few, one_more, rank_mono (opens? ts) (i + 1) (length ts) l)

    slots-more : (result : List ℕ) → result ≡ with_slot slots m (kind_at s i) (a_at s i) (b_at s i) i → 4 * m + 4 ≤ length slots
        → SlotsCollected ts result (i + 1) (m + 1)
    slots-more result z l = subst (λ (y : List ℕ). SlotsCollected ts y (i + 1) (m + 1)) (sym z) (record {
      few = omega (arith, C.few, one_more);
      are = below_more (λ q. IsSlot ts (slot_kind after q) (slot_role after q) (slot_child after q) (slot_term after q)) m
          (λ q g. same4 (IsSlot ts) _ _ _ _ _ _ _ _ (sym (before (4 * q) (omega arith))) (sym (before (4 * q + 1) (omega arith)))
          (sym (before (4 * q + 2) (omega arith))) (sym (before (4 * q + 3) (omega arith))) (C.are q g))
          (same4 (IsSlot ts) _ _ _ _ _ _ _ _ (sym (written-kind slots m k a b i l)) (sym (written-role slots m k a b i l))
          (sym (written-child slots m k a b i l)) (sym (written-term slots m k a b i l)) (n.0, n.1, rw (length-terms s) h, is));
      onto = below_more (λ j. (f : Quantifier) (r x : ℕ) → term ts j ≡ quantified f r x → (q : ℕ) × (q < m + 1) × (slot_term after q ≡ j)) i
          (λ j g f r x e. let u = C.onto j g f r x e in (u.0, omega arith, before (4 * u.0 + 3) (omega arith) ∙ u.2))
          (λ f r x e. (m, omega arith, written-term slots m k a b i l));
    })
      where
        k : ℕ
        k = kind_at s i

        a : ℕ
        a = a_at s i

        b : ℕ
        b = b_at s i

        after : List ℕ
        after = with_slot slots m k a b i

        before : (j : ℕ) → j < 4 * m → get_or after j 0 ≡ get_or slots j 0
        before = written-before slots m k a b i

  -- the same of a term that is read as quantified
  module _ (q : Quantifier) (r x : ℕ) (e : quantified q r x ≡ term_at s i) where
    kinds_read : (4 ≤ kind_at s i) × (kind_at s i ≤ 5)
    kinds_read =
        let none : (kind_at s i < 4) ⊎ (5 < kind_at s i) → ⊥ = λ o. other_term s i h o q r x (term-at s i h ∙ sym e) in
        let low : 4 ≤ kind_at s i = dite (dec_lt (kind_at s i) 4) (λ l. absurd (none (inl l))) (λ n. omega arith) in
        let high : kind_at s i ≤ 5 = dite (dec_lt 5 (kind_at s i)) (λ l. absurd (none (inr l))) (λ n. omega arith) in
        (low, high)

    alike : (q ≡ quantifier_of (kind_at s i)) × (r ≡ a_at s i) × (x ≡ b_at s i)
    alike = quantified_alike q (quantifier_of (kind_at s i)) r (a_at s i) x (b_at s i) (e ∙ sym (term-at s i h) ∙ is kinds_read)

    pub read-room : m + 1 ≤ places ts
    read-room = slots-room kinds_read

    pub read-more : (result : List ℕ) → result ≡ with_slot slots m (kind_at s i) r x i → 4 * m + 4 ≤ length slots → SlotsCollected ts result (i + 1) (m + 1)
    read-more result z = slots-more kinds_read result (rw (← alike.1, ← alike.2) z)

pub slots-few : (ts : List Term) (slots : List ℕ) (m : ℕ) → SlotsCollected ts slots (length ts) m → m ≤ places ts
unfolding places
slots-few ts slots m C = C.few

-- the part that is written holds the slots of all terms
module _ (ts : List Term) (slots : List ℕ) (m : ℕ) (C : SlotsCollected ts slots (length ts) m) (room : 4 * m ≤ length slots) where
  part_count : slot_count (take (4 * m) slots) ≡ m
  part_count = omega (arith, length-take-le (4 * m) slots room)

  part_at : (j : ℕ) → j < 4 * m → get_or (take (4 * m) slots) j 0 ≡ get_or slots j 0
  part_at j h = get_or-take (4 * m) slots j 0 h

  pub slots_of : SlotsOf ts (take (4 * m) slots)
  slots_of = record {
    kinds = λ q h. let u = slot q (omega (arith, part_count)) in (u.0, u.1);
    terms = λ q h. (slot q (omega (arith, part_count))).2;
    are = λ q h. (slot q (omega (arith, part_count))).3;
    onto = λ i l k r x e. let u = C.onto i l k r x e in (u.0, omega (arith, part_count), part_at (4 * u.0 + 3) (omega arith) ∙ u.2);
  }
    where
      part : List ℕ
      part = take (4 * m) slots

      slot : (q : ℕ) → q < m → IsSlot ts (slot_kind part q) (slot_role part q) (slot_child part q) (slot_term part q)
      slot q h =
          same4 (IsSlot ts) _ _ _ _ _ _ _ _ (sym (part_at (4 * q) (omega arith))) (sym (part_at (4 * q + 1) (omega arith)))
          (sym (part_at (4 * q + 2) (omega arith))) (sym (part_at (4 * q + 3) (omega arith))) (C.are q h)
