-- A book whose terms are renumbered so that the places stay what they are has the same survivors.
-- Assumes nothing.
use mathlib.Core.Path.{◌≡◌, sym, subst, ◌∙◌}
use mathlib.Core.List.{List, map}
use Prim.Native.Nat.{ℕ, ◌≤◌, ◌<◌}
use lib.ListN.{length}
use Rattle.chain.proofs.Lists.{each_map₂, each_mapped, ascending_same}
use Rattle.semantics.specs.Terms.{Term, term}
use Rattle.semantics.specs.Interpretations.{Grading, WellFormed}
use Rattle.semantics.specs.Books.{Rule, Book, Valid}
use Rattle.semantics.proofs.Links.{child_in}
use Rattle.types.specs.Candidates.{candidates, grade_in}
use Rattle.types.specs.Sharing.{renumber_rule, with_terms, renumbered}
use Rattle.types.proofs.Sharing.{Renumbered, renumber-quantified, quantified-renumber, candidates-renumbered, grade-renumbered, link-renumbered}
use Rattle.elimination.specs.Survivors.{Witnesses, Obeys, Fits, Sound, Survives, survivors_of}
use Rattle.elimination.proofs.Survivors.{survivors_ascending, survivors_sound, survivors_largest}

module _ (B : Book) (us : List Term) (f : ℕ → ℕ) (v : Valid B) (u : WellFormed (with_terms B.grading us)) (re : Renumbered f B.grading.terms us) where
  abbrev G : Grading
  G = B.grading

  abbrev H : Grading
  H = with_terms G us

  abbrev rs : List Rule
  rs = B.rules

  abbrev qs : List Rule
  qs = map (renumber_rule f) rs

  w : WellFormed G
  w = v.well_formed

  grade : (c i : ℕ) → i < length G.terms → grade_in G c i ≡ grade_in H c (f i)
  grade = grade-renumbered G us f w u re

  obeys_there : (c : ℕ) → Obeys G rs c → Obeys H qs c
  obeys_there c h =
      (each_mapped (λ q. grade_in H c q.left ≤ grade_in H c q.right) (renumber_rule f) (λ q. grade_in H c (f q.left) ≤ grade_in H c (f q.right))
      (λ q. (λ z. z, λ z. z)) rs).1 (each_map₂ (λ q k m. rw (← grade c q.left k.0, ← grade c q.right k.1) m) rs v.rules_in h)

  obeys_back : (c : ℕ) → Obeys H qs c → Obeys G rs c
  obeys_back c h =
      each_map₂ (λ q k m. rw (grade c q.left k.0, grade c q.right k.1) m) rs v.rules_in
      ((each_mapped (λ q. grade_in H c q.left ≤ grade_in H c q.right) (renumber_rule f) (λ q. grade_in H c (f q.left) ≤ grade_in H c (f q.right))
      (λ q. (λ z. z, λ z. z)) rs).0 h)

  module _ (S : ℕ → Type 0) (c : ℕ) where
    fits_there : Fits G rs S c → Fits H qs S c
    fits_there (o, q) = (
      obeys_there c o,
      λ j l k r x e.
          let (i, h, fi) = re.onto j l in
          let (y, ey, fy) = renumber-quantified f (term G.terms i) k r x (sym (re.term_same i h) ∙ rw fi e) in
          let (d, s, t) = q i h k r y ey in
          let p : Witnesses H c (f i) k r (f y) d =
          rw (← grade c i h, ← grade d y (child_in G w i h k r y ey), ← link-renumbered G us f w u re r c d) t in
          (d, s, subst (λ (z : ℕ). Witnesses H c z k r x d) fi (subst (λ (z : ℕ). Witnesses H c (f i) k r z d) fy p)),
    )

    fits-back : Fits H qs S c → Fits G rs S c
    fits-back (o, q) = (
      obeys_back c o,
      λ i l k r x e.
          let (d, s, t) = q (f i) (re.lands i l) k r (f x) (re.term_same i l ∙ quantified-renumber f k r x (term G.terms i) e) in
          (d, s, rw (grade c i l, grade d x (child_in G w i l k r x e), link-renumbered G us f w u re r c d) t),
    )

  pub survivors-renumbered : survivors_of B ≡ survivors_of (renumbered f us B)
  survivors-renumbered =
      ascending_same 0 _ _ (survivors_ascending G rs) (survivors_ascending H qs) (λ c. (survivors_largest H qs (Survives G rs) there c, survivors_largest G rs (Survives H qs) back c))
    where
      same : candidates G ≡ candidates H
      same = candidates-renumbered G us f w u re

      there : Sound H qs (Survives G rs)
      there = let s = survivors_sound G rs in record {
        candidate = λ c m. rw (← same) (s.candidate c m);
        fits = λ c m. fits_there (Survives G rs) c (s.fits c m);
      }

      back : Sound G rs (Survives H qs)
      back = let s = survivors_sound H qs in record {
        candidate = λ c m. rw same (s.candidate c m);
        fits = λ c m. fits-back (Survives H qs) c (s.fits c m);
      }
