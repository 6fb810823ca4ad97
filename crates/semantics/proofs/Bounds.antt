-- Laws of the bounds of a link: it is the least of those of its role and of the roles above it, and so not above the link of such a role.
-- Assumes nothing.
use mathlib.Core.Path.{◌≡◌, refl}
use mathlib.Core.Logic.{inl, inr, dite}
use Prim.Native.Nat.{ℕ, suc, ◌≤◌, ◌<◌}
use native.Mathlib.Decide.{ℕ_discrete}
use native.Mathlib.Omega.{arith}
use Rattle.chain.specs.Decisions.{dec_and}
use Rattle.chain.specs.Lists.{Mem, any?}
use Rattle.semantics.specs.Roles.{RolePair}
use Rattle.semantics.specs.Interpretations.{Grading, WellFormed}
use Rattle.semantics.specs.Links.{Governs, link_between, alone}
use Rattle.semantics.proofs.Governs.{Transitive, alone-formed}
use Rattle.semantics.proofs.Links.{Graded, allows_roles, between_le, between-most, between-allows, up_to_link}

module _ (G : Grading) (w : WellFormed G) (r : ℕ) (own child : ℕ → ℕ) (own_le : Graded G own) (child_le : Graded G child) where
  abbrev m : ℕ
  m = link_between G r own child

  abbrev bound : ℕ → ℕ
  bound t = link_between (alone G) t own child

  pub between_under : (t : ℕ) → Governs G t r → m ≤ bound t
  between_under t g =
      between-most (alone G) t own child m (between_le G r own child)
      ((allows_roles G r own child m).0 (between-allows G r own child w own_le child_le) t g)

  between-greatest_under : (s : ℕ) → s ≤ G.steps → ((t : ℕ) → Governs G t r → s ≤ bound t) → s ≤ m
  between-greatest_under s h f =
      between-most G r own child s h
      ((allows_roles G r own child s).1 (λ t g. (up_to_link (alone G) t own child (alone-formed G w) own_le child_le s h).0 (f t g)))

  pub between_one : (t : ℕ) × Governs G t r × (bound t ≡ m)
  between_one =
      dite (ℕ_discrete (bound r) m) (λ e. (r, inl refl, e)) (λ n.
      dite (any? (λ q. dec_and (ℕ_discrete q.lower r) (ℕ_discrete (bound q.upper) m)) G.above)
      (λ (q, k, (l, e)). (q.upper, inr (q, k, (l, refl)), e)) (λ none.
      let own-more : m < bound r = omega (arith, between_under r (inl refl)) in
      let le : bound r ≤ G.steps = between_le (alone G) r own child in
      absurd (omega (arith, between-greatest_under (suc m) (omega arith) (more n none)))))
    where
      more : ¬ (bound r ≡ m) → ¬ ((q : RolePair) × Mem q G.above × ((q.lower ≡ r) × (bound q.upper ≡ m))) → (t : ℕ) → Governs G t r → suc m ≤ bound t
      more n none t (inl e) = rw e (omega (arith, between_under r (inl refl)))
      more n none t (inr (q, k, (l, u))) =
          let g : m ≤ bound t = between_under t (inr (q, k, (l, u))) in
          dite (ℕ_discrete (bound t) m) (λ e. absurd (none (q, k, (l, rw u e)))) (λ d. omega arith)

-- links rise from a role to those above it
pub between_rises : (G : Grading) → WellFormed G → Transitive G → (r s : ℕ) (own child : ℕ → ℕ) → Graded G own → Graded G child → Governs G s r
    → link_between G r own child ≤ link_between G s own child
between_rises G w tr r s own child own_le child_le g =
    between-most G s own child _ (between_le G r own child)
    (λ i l q t x e h. between-allows G r own child w own_le child_le i l q t x e (tr r s t g h))
