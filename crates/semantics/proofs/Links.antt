-- Laws of the link between two types: it is on the chain, it is allowed, and whatever is allowed is not above it; equal grades have equal
-- links. No other file looks inside the definition.
-- Assumes nothing.
use mathlib.Core.Path.{◌≡◌, refl, sym, subst}
use mathlib.Core.Logic.{inl, ◌↔◌}
use Prim.Native.Nat.{ℕ, ◌≤◌, ◌<◌}
use native.Mathlib.Nat.{le_antisymm}
use native.Mathlib.Omega.{arith}
use lib.ListN.{length}
use Rattle.chain.specs.Search.{greatest}
use Rattle.chain.specs.Connectives.{Quantifier, existential, universal, through, Within}
use Rattle.chain.proofs.Search.{greatest_le, greatest-passes, greatest-most}
use Rattle.chain.proofs.Connectives.{within_trans, neutral-within, through_mono, through_zero}
use Rattle.semantics.specs.Terms.{term}
use Rattle.semantics.specs.Quantified.{quantified, EachOfRole}
use Rattle.semantics.specs.Interpretations.{Grading, WellFormed}
use Rattle.semantics.specs.Links.{Governs, Allows, allows?, link_between, alone}
use Rattle.semantics.proofs.Terms.{child_lt}
use Rattle.semantics.proofs.Governs.{alone-same}

-- the terms have grades on the chain
abbrev pub Graded : Grading → (ℕ → ℕ) → Type 0
Graded G f = (i : ℕ) → i < length G.terms → f i ≤ G.steps

-- two functions give the terms the same grades
abbrev pub Alike : Grading → (f g : ℕ → ℕ) → Type 0
Alike G f g = (i : ℕ) → i < length G.terms → f i ≡ g i

pub child_in : (G : Grading) → WellFormed G → (i : ℕ) → i < length G.terms → (q : Quantifier) (t x : ℕ) → term G.terms i ≡ quantified q t x
    → x < length G.terms
child_in G w i l q t x e = omega (arith, child_lt G.terms w.ordered i l q t x e)

module _ (G : Grading) (r : ℕ) (own child : ℕ → ℕ) where
  -- what is asked for a role is what is asked by each role that is it or above it
  pub allows_roles : (s : ℕ) → Allows G r own child s ↔ ((t : ℕ) → Governs G t r → Allows (alone G) t own child s)
  allows_roles s = (
    λ a t g i l q u x e h. a i l q u x e (subst (λ (z : ℕ). Governs G z r) (sym (alone-same G u t h)) g),
    λ f i l q t x e g. f t g i l q t x e (inl refl),
  )

  -- by a role alone, in the words of the document: "all" and "some" apart
  pub allows-each : (s : ℕ) → Allows (alone G) r own child s
      ↔ (EachOfRole G.terms universal r (λ i x. own i ≤ G.connectives.implication s (child x))
      × EachOfRole G.terms existential r (λ i x. G.connectives.conjunction s (child x) ≤ own i))
  allows-each s = (
    λ a. (λ i l x e. a i l universal r x e (inl refl), λ i l x e. a i l existential r x e (inl refl)),
    λ f i l q t x e g. go f i l q x (subst (λ (z : ℕ). term G.terms i ≡ quantified q z x) (alone-same G t r g) e),
  )
    where
      go : (EachOfRole G.terms universal r (λ i x. own i ≤ G.connectives.implication s (child x))
          × EachOfRole G.terms existential r (λ i x. G.connectives.conjunction s (child x) ≤ own i))
          → (i : ℕ) → i < length G.terms → (q : Quantifier) (x : ℕ) → term G.terms i ≡ quantified q r x → Within q (through G.connectives q s (child x)) (own i)
      go f i l universal x e = f.0 i l x e
      go f i l existential x e = f.1 i l x e

  -- as a search downward meets it
  pub between-greatest : link_between G r own child ≡ greatest (allows? G r own child) G.steps
  unfolding link_between
  between-greatest = refl

  pub between_le : link_between G r own child ≤ G.steps
  unfolding link_between
  between_le = greatest_le (allows? G r own child) G.steps

  pub between-most : (s : ℕ) → s ≤ G.steps → Allows G r own child s → s ≤ link_between G r own child
  unfolding link_between
  between-most s h a = greatest-most (allows? G r own child) G.steps s h a

  module _ (w : WellFormed G) (own_le : Graded G own) (child_le : Graded G child) where
    -- no link is always allowed, and so is a weaker one where a stronger one is
    allows_zero : Allows G r own child 0
    allows_zero i l q t x e g =
        subst (λ (y : ℕ). Within q y (own i))
        (sym (through_zero G.steps G.connectives w.lawful q _ (child_le x (child_in G w i l q t x e)))) (neutral-within q G.steps _ (own_le i l))

    pub allows_down : (s t : ℕ) → s ≤ t → t ≤ G.steps → Allows G r own child t → Allows G r own child s
    allows_down s u h k f i l q t x e g =
        within_trans q _ _ _ (through_mono G.steps G.connectives w.lawful q s u _ h k (child_le x (child_in G w i l q t x e))) (f i l q t x e g)

    pub between-allows : Allows G r own child (link_between G r own child)
    unfolding link_between
    between-allows = greatest-passes (allows? G r own child) allows_zero G.steps

    -- up to the link everything is allowed, and nothing above it
    pub up_to_link : (s : ℕ) → s ≤ G.steps → (s ≤ link_between G r own child) ↔ Allows G r own child s
    up_to_link s h = (λ l. allows_down s (link_between G r own child) l between_le between-allows, between-most s h)

-- equal grades
module _ (G : Grading) (w : WellFormed G) (r : ℕ) where
  pub allows_alike : (own own' child child' : ℕ → ℕ) → Alike G own own' → Alike G child child' → (s : ℕ)
      → Allows G r own child s → Allows G r own' child' s
  allows_alike own own' child child' a b s f i l q t x e g = rw (← a i l, ← b x (child_in G w i l q t x e)) (f i l q t x e g)

  pub between_alike : (own own' child child' : ℕ → ℕ) → Graded G own → Graded G child → Alike G own own' → Alike G child child'
      → link_between G r own child ≡ link_between G r own' child'
  between_alike own own' child child' ho hc a b =
      le_antisymm
      (between-most G r own' child' _ (between_le G r own child) (allows_alike own own' child child' a b _ (between-allows G r own child w ho hc)))
      (between-most G r own child _ (between_le G r own' child')
      (allows_alike own' own child' child (λ i l. sym (a i l)) (λ i l. sym (b i l)) _
      (between-allows G r own' child' w (λ i l. rw (← a i l) (ho i l)) (λ i l. rw (← b i l) (hc i l)))))
