-- Theorem A. In every model of the rules the type of each element is that of exactly one candidate, and that one survives. A link between
-- two elements is never above the link of their types.
-- Assumes nothing.
use mathlib.Core.Path.{◌≡◌, refl, sym, subst, ◌∙◌}
use Prim.Native.Nat.{ℕ, ◌≤◌, ◌<◌}
use native.Mathlib.Omega.{arith}
use lib.ListN.{length}
use Rattle.chain.specs.Connectives.{Quantifier, through, Within, over}
use Rattle.chain.proofs.Lists.{each_map₂}
use Rattle.chain.proofs.Connectives.{within_trans, within_antisymm, through_le, through_mono, over-upper, over_attained}
use Rattle.semantics.specs.Terms.{term}
use Rattle.semantics.specs.Quantified.{quantified}
use Rattle.semantics.specs.Interpretations.{Grading, WellFormed, Interpretation, OnChain}
use Rattle.semantics.specs.Books.{Book, Valid, RuleModel}
use Rattle.semantics.proofs.Terms.{child_lt}
use Rattle.semantics.proofs.Interpretations.{taken, grade_at-quantified, grade_at_le}
use Rattle.semantics.specs.Links.{Governs}
use Rattle.semantics.proofs.Roles.{pairs_rise}
use Rattle.semantics.proofs.Governs.{governs-upward}
use Rattle.types.specs.Candidates.{grade_in, candidates, type_of}
use Rattle.types.specs.Links.{link}
use Rattle.types.proofs.Candidates.{type_of_lt, type_of_has}
use Rattle.types.proofs.Links.{link-most, link_le, link-bounded}
use Rattle.elimination.specs.Survivors.{Fits, Sound, Survives, Witnesses}
use Rattle.elimination.proofs.Survivors.{survivors_largest}

module _ (B : Book) (v : Valid B) (I : Interpretation) (m : RuleModel B I) where
  abbrev G : Grading
  G = B.grading

  w : WellFormed G
  w = v.well_formed

  abbrev p : OnChain G.steps I
  p = m.on_chain

  child_in : (i : ℕ) → i < length G.terms → (q : Quantifier) (r x : ℕ) → term G.terms i ≡ quantified q r x → x < length G.terms
  child_in i l q r x t = omega (arith, child_lt G.terms w.ordered i l q r x t)

  type_quantified : (i : ℕ) → i < length G.terms → (q : Quantifier) (r x : ℕ) → term G.terms i ≡ quantified q r x → (e : ℕ) → e < I.size
      → grade_in G (type_of G I e) i ≡ over q G.steps (taken G I q r x e) I.size
  type_quantified i l q r x t e h = sym (type_of_has G w I p e h i l) ∙ grade_at-quantified G I w i l q r x t e

  -- the terms of a role that is above bound its link too: "the lower role's link never exceeds the upper's"
  links_rise : (s r e f : ℕ) → e < I.size → f < I.size → Governs G s r → I.links r e f ≤ I.links s e f
  links_rise s r e f he hf g = pairs_rise B.pairs I m.pairs_met r s ((governs-upward G B.pairs v.pairs_in v.ranked s r).0 g) e f he hf

  pub link_of_types : (r e f : ℕ) → e < I.size → f < I.size → I.links r e f ≤ link G r (type_of G I e) (type_of G I f)
  link_of_types r e f he hf =
      link-most G r (type_of G I e) (type_of G I f) (I.links r e f) (p.links_le r e f he hf) (λ i l q s x t g.
      let j = child_in i l q s x t in
      rw (type_quantified i l q s x t e he, ← type_of_has G w I p f hf x j)
      (within_trans q _ _ _
      (through_mono G.steps G.connectives w.lawful q _ _ _ (links_rise s r e f he hf g) (p.links_le s e f he hf) (grade_at_le G I w p x j f hf))
      (over-upper q G.steps (taken G I q s x e) I.size f hf)))

  -- the types of the elements
  abbrev pub Realised : ℕ → Type 0
  Realised c = (e : ℕ) × (e < I.size) × (type_of G I e ≡ c)

  -- the element that gives a quantified term its grade is its witness: the link of the types takes no less, and by its law no more
  witnessed : (e : ℕ) → e < I.size → (i : ℕ) → i < length G.terms → (q : Quantifier) (r x : ℕ) → term G.terms i ≡ quantified q r x
      → (d : ℕ) × Realised d × Witnesses G (type_of G I e) i q r x d
  witnessed e h i l q r x t =
      let j = child_in i l q r x t in
      let u = over_attained q G.steps (taken G I q r x e) I.size p.inhabited
      (λ f g. through_le G.steps G.connectives w.lawful q _ _ (p.links_le r e f h g) (grade_at_le G I w p x j f g)) in
      let c : ℕ = type_of G I e in
      let d : ℕ = type_of G I u.0 in
      let less : Within q (grade_in G c i) (through G.connectives q (link G r c d) (grade_in G d x)) =
      rw (type_quantified i l q r x t e h ∙ sym u.2, ← type_of_has G w I p u.0 u.1 x j)
      (through_mono G.steps G.connectives w.lawful q _ _ _ (link_of_types r e u.0 h u.1) (link_le G r c d) (grade_at_le G I w p x j u.0 u.1)) in
      (d, (u.0, u.1, refl), within_antisymm q less (link-bounded G r c d w i l q x t))

  realised_fits : (e : ℕ) → e < I.size → Fits G B.rules Realised (type_of G I e)
  realised_fits e h = (
    each_map₂ (λ q n g. rw (← type_of_has G w I p e h q.left n.0, ← type_of_has G w I p e h q.right n.1) (g e h)) B.rules v.rules_in m.rules_met,
    witnessed e h,
  )

  realised_sound : Sound G B.rules Realised
  realised_sound = record {
    candidate = λ c u. subst (λ (d : ℕ). d < candidates G) u.2 (type_of_lt G w I p u.0 u.1);
    fits = λ c u. subst (Fits G B.rules Realised) u.2 (realised_fits u.0 u.1);
  }

  -- THEOREM A (with `type_of_has` and `type_of_only` of `types`)
  pub complete : (e : ℕ) → e < I.size → Survives G B.rules (type_of G I e)
  complete e h = survivors_largest G B.rules Realised realised_sound (type_of G I e) (e, h, refl)
