-- Theorem B. The interpretation of a sound set of candidates gives each element its type and, if the set has a member, meets every rule and every pair,
-- wherever the individuals sit. The survivors are such a set.
-- Assumes nothing.
use mathlib.Core.Path.{◌≡◌, refl, sym, ap, subst, ◌∙◌}
use mathlib.Core.Logic.{⊎_elim, inl, inr, ◌↔◌}
use mathlib.Core.List.{List}
use Prim.Native.Nat.{ℕ, ◌≤◌, ◌<◌}
use native.Mathlib.Omega.{arith}
use lib.ListN.{length, get_or}
use Rattle.chain.specs.Search.{First}
use Rattle.chain.specs.Lists.{Mem}
use Rattle.chain.specs.Connectives.{Quantifier, existential, universal, through, Within, over}
use Rattle.chain.proofs.Lists.{mem_at, at_mem, each_mem, mem_each}
use Rattle.chain.proofs.Connectives.{within_antisymm, over-upper, over_least}
use Rattle.semantics.specs.Terms.{Term, name, not, and, or, some, all, top, bottom, term, local}
use Rattle.semantics.specs.Quantified.{quantified}
use Rattle.semantics.specs.Interpretations.{Grading, WellFormed, OnChain, at_elements}
use Rattle.semantics.specs.Books.{Rule, Book, Valid, RuleInRange, RuleModel}
use Rattle.semantics.proofs.Interpretations.{grade_at_unique}
use Rattle.semantics.proofs.Roles.{upward_pair}
use Rattle.semantics.proofs.Governs.{governs-upward, valid_transitive}
use Rattle.types.specs.Candidates.{grade_in, named?, bearer, candidates, HasType}
use Rattle.types.specs.Links.{link}
use Rattle.types.proofs.Candidates.{grade_in_le, grade_in-local, grade_in-name, type_of_only}
use Rattle.types.proofs.Links.{link_le, link-bounded, link_rises}
use Rattle.elimination.specs.Survivors.{Sound, survivors, Survives}
use Rattle.elimination.specs.Listed.{types_in, Occurs}
use Rattle.elimination.proofs.Survivors.{survivors_sound}
use Rattle.elimination.proofs.Complete.{complete}

-- a sound set, listed in any order
module _ (G : Grading) (rs : List Rule) (w : WellFormed G) (xs : List ℕ) (sound : Sound G rs (λ c. Mem c xs)) (seat : ℕ → ℕ) where
  abbrev n : ℕ
  n = length xs

  abbrev at : ℕ → ℕ
  at e = get_or xs e 0

  -- a quantified term of a member comes to its grade over the members: a witness reaches it, and no link passes it
  sound_quantified : (i : ℕ) → i < length G.terms → (e : ℕ) → e < n → (q : Quantifier) (r x : ℕ) → term G.terms i ≡ quantified q r x
      → grade_in G (at e) i ≡ over q G.steps (λ f. through G.connectives q (link G r (at e) (at f)) (grade_in G (at f) x)) n
  sound_quantified i l e h q r x t =
      let c : ℕ = at e in
      let f : ℕ → ℕ = λ f. through G.connectives q (link G r c (at f)) (grade_in G (at f) x) in
      let u = (sound.fits c (mem_at xs e 0 h)).1 i l q r x t in
      let v = at_mem xs 0 u.0 u.1 in
      within_antisymm q
      (subst (λ (y : ℕ). Within q y (over q G.steps f n))
      (ap (λ (d : ℕ). through G.connectives q (link G r c d) (grade_in G d x)) v.2 ∙ sym u.2)
      (over-upper q G.steps f n v.0 v.1))
      (over_least q G.steps f n (grade_in G c i) (grade_in_le G w c i l) (λ g k. link-bounded G r c (at g) w i l q x t))

  -- THEOREM B: each element has its type
  pub sound_has : (e : ℕ) → e < n → HasType G (types_in G xs seat) e (at e)
  sound_has e h i l =
      sym (grade_at_unique G (types_in G xs seat) w (λ j f. grade_in G (at f) j) (λ j k f g. go j k f g (term G.terms j) refl) i l e h)
    where
      go : (i : ℕ) → i < length G.terms → (e : ℕ) → e < n → (t : Term) → term G.terms i ≡ t
          → grade_in G (at e) i ≡ local (at_elements G (types_in G xs seat)) i t (λ j f. grade_in G (at f) j) e
      go i l e h (name a) t = grade_in-name G w (at e) i a l t
      go i l e h (not x) t = grade_in-local G w (at e) i l (not x) t
      go i l e h (and x y) t = grade_in-local G w (at e) i l (and x y) t
      go i l e h (or x y) t = grade_in-local G w (at e) i l (or x y) t
      go i l e h (some r x) t = sound_quantified i l e h existential r x t
      go i l e h (all r x) t = sound_quantified i l e h universal r x t
      go i l e h top t = grade_in-local G w (at e) i l top t
      go i l e h bottom t = grade_in-local G w (at e) i l bottom t

-- .. and one that has a member meets every rule and every pair, wherever the individuals sit
module _ (B : Book) (w : Valid B) (xs : List ℕ) (sound : Sound B.grading B.rules (λ c. Mem c xs)) (seat : ℕ → ℕ) (some_left : 0 < length xs)
    (seated : (j : ℕ) → seat j < length xs) where
  abbrev G : Grading
  G = B.grading

  sound_on_chain : OnChain G.steps (types_in G xs seat)
  sound_on_chain = record {
    inhabited = some_left;
    names_le = λ a e h. go e (bearer G.terms a);
    links_le = λ r e f g h. link_le G r (get_or xs e 0) (get_or xs f 0);
    element_lt = seated;
  }
    where
      go : (e : ℕ) {a : ℕ} (v : First (named? G.terms a) (length G.terms)) → ⊎_elim (λ u. grade_in G (get_or xs e 0) u.0) (λ _. 0) v ≤ G.steps
      go e (inl u) = grade_in_le G w.well_formed (get_or xs e 0) u.0 u.1
      go e (inr f) = omega arith

  pub sound_meets : RuleModel B (types_in G xs seat)
  sound_meets = record {
    on_chain = sound_on_chain;
    rules_met = mem_each B.rules (λ q m e h.
        let k = each_mem (RuleInRange G) B.rules w.rules_in q m in
        let has = sound_has G B.rules w.well_formed xs sound seat e h in
        rw (has q.left k.0, has q.right k.1)
        (each_mem (λ o. grade_in G (get_or xs e 0) o.left ≤ grade_in G (get_or xs e 0) o.right) B.rules (sound.fits (get_or xs e 0) (mem_at xs e 0 h)).0 q m));
    pairs_met = mem_each B.pairs (λ q m e f _ _.
        link_rises G q.lower (get_or xs e 0) (get_or xs f 0) w.well_formed (valid_transitive B w) q.upper
        ((governs-upward G B.pairs w.pairs_in w.ranked q.upper q.lower).1 (upward_pair B.pairs q m)));
  }

-- ---- with Theorem A: the survivors are exactly the types that an element has in some model of the rules

pub survives_realised : (B : Book) → Valid B → (c : ℕ) → Survives B.grading B.rules c ↔ ((c < candidates B.grading) × Occurs B c)
survives_realised B w c = (
  λ m.
      let G = B.grading in
      let xs = survivors G B.rules in
      let u = at_mem xs 0 c m in
      let h : 0 < length xs = omega (arith, u.1) in
      let s = survivors_sound G B.rules in (
        s.candidate c m,
        (
          types_in G xs (λ _. 0),
          sound_meets B w xs s (λ _. 0) h (λ _. h),
          u.0,
          u.1,
          subst (HasType G (types_in G xs (λ _. 0)) u.0) u.2 (sound_has G B.rules w.well_formed xs s (λ _. 0) u.0 u.1),
        ),
      ),
  λ (l, (I, m, e, h, t)).
      subst (Survives B.grading B.rules) (sym (type_of_only B.grading w.well_formed I m.on_chain e h c l t)) (complete B w I m e h),
)
