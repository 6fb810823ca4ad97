-- Laws of roles under roles: what is reached upward is the least reflexive and transitive relation that has the pairs, and the hierarchy is that relation
-- of the roles 0–7.
-- Assumes nothing.
use mathlib.Core.Path.{◌≡◌, refl, sym, subst, ◌∙◌}
use mathlib.Core.Logic.{◌⊎◌, inl, inr, ⊎_elim, ◌↔◌}
use mathlib.Core.List.{List, [], ◌∷◌}
use Prim.Native.Nat.{ℕ, zero, suc, ◌+◌, ◌*◌, ◌/◌, ◌%◌, ◌≤◌, ◌<◌}
use native.Mathlib.Omega.{arith}
use Rattle.chain.specs.Lists.{Mem, Each, table}
use Rattle.chain.proofs.Lists.{each_mem, mem_each, mem_at, each-table, length-table, get_or-table, mem_keep, keep_mem}
use Rattle.semantics.specs.Roles.{RolePair, Upward, upward?, Steps, role_pairs, hierarchy, Above}
use Rattle.semantics.specs.Interpretations.{Interpretation}
use Rattle.semantics.specs.Books.{RolesInRange, MeetsPair}

-- ---- the least reflexive and transitive relation that has the pairs

pub upward_refl : (ps : List RolePair) (r : ℕ) → Upward ps r r
upward_refl [] r = refl
upward_refl (q ∷ qs) r = inl (upward_refl qs r)

pub upward_trans : (ps : List RolePair) (r s t : ℕ) → Upward ps r s → Upward ps s t → Upward ps r t
upward_trans [] r s t h g = h ∙ g
upward_trans (q ∷ qs) r s t (inl h) (inl g) = inl (upward_trans qs r s t h g)
upward_trans (q ∷ qs) r s t (inl h) (inr g) = inr (upward_trans qs r s q.lower h g.0, g.1)
upward_trans (q ∷ qs) r s t (inr h) (inl g) = inr (h.0, upward_trans qs q.upper s t h.1 g)
upward_trans (q ∷ qs) r s t (inr h) (inr g) = inr (h.0, g.1)

pub upward_pair : (ps : List RolePair) (p : RolePair) → Mem p ps → Upward ps p.lower p.upper
upward_pair [] p m = absurd m
upward_pair (q ∷ qs) p (inl e) =
    subst (λ (z : RolePair). Upward (q ∷ qs) z.lower z.upper) (sym e) (inr (upward_refl qs q.lower, upward_refl qs q.upper))
upward_pair (q ∷ qs) p (inr m) = inl (upward_pair qs p m)

-- every other such relation has it
module _ (T : ℕ → ℕ → Type 0) (itself : (r : ℕ) → T r r) (through : (r s t : ℕ) → T r s → T s t → T r t) where
  pub upward_least : (ps : List RolePair) → Each (λ q. T q.lower q.upper) ps → (r s : ℕ) → Upward ps r s → T r s
  upward_least [] h r s e = subst (T r) e (itself r)
  upward_least (q ∷ qs) h r s (inl g) = upward_least qs h.1 r s g
  upward_least (q ∷ qs) h r s (inr g) =
      through r q.lower s (upward_least qs h.1 r q.lower g.0)
      (through q.lower q.upper s h.0 (upward_least qs h.1 q.upper s g.1))

-- so links that meet every pair rise along every way
pub pairs_rise : (ps : List RolePair) (I : Interpretation) → Each (MeetsPair I) ps → (r s : ℕ) → Upward ps r s
    → (e f : ℕ) → e < I.size → f < I.size → I.links r e f ≤ I.links s e f
pairs_rise ps I =
    upward_least (λ r s. (e f : ℕ) → e < I.size → f < I.size → I.links r e f ≤ I.links s e f) (λ r e f _ _. omega arith)
    (λ r s t g k e f a b. omega (arith, g e f a b, k e f a b)) ps

-- ---- by steps

steps_trans : (ps : List RolePair) (n m r s t : ℕ) → Steps ps n r s → Steps ps m s t → (k : ℕ) × Steps ps k r t
steps_trans ps zero m r s t h g = (m, subst (λ (z : ℕ). Steps ps m z t) (sym h) g)
steps_trans ps (suc n) m r s t (q, k, e, h) g = let u = steps_trans ps n m q.upper s t h g in (suc u.0, (q, k, e, u.1))

pub upward-steps : (ps : List RolePair) (r s : ℕ) → Upward ps r s ↔ ((n : ℕ) × Steps ps n r s)
upward-steps ps r s = (
  upward_least (λ a b. (n : ℕ) × Steps ps n a b) (λ a. (0, refl)) (λ a b c h g. steps_trans ps h.0 g.0 a b c h.1 g.1) ps
      (mem_each ps (λ q m. (1, (q, m, refl, refl)))) r s,
  λ (n, h). back n r h,
)
  where
    back : (n r : ℕ) → Steps ps n r s → Upward ps r s
    back zero r e = subst (Upward ps r) e (upward_refl ps r)
    back (suc n) r (q, m, e, h) =
        subst (λ (z : ℕ). Upward ps z s) e (upward_trans ps q.lower q.upper s (upward_pair ps q m) (back n q.upper h))

-- ---- the hierarchy of the roles 0–7

-- a pair of roles 0–7 stands among them, and the others do not
pub pair_among : (q : RolePair) → RolesInRange q → Mem q role_pairs
unfolding role_pairs
pair_among q h =
    let x : ℕ = 8 * q.lower + q.upper in
    let f : ℕ → RolePair = λ y. record { lower = y / 8; upper = y % 8 } in
    let l : x < 64 = omega arith in
    let lo : x / 8 ≡ q.lower = omega arith in
    let up : x % 8 ≡ q.upper = omega arith in
    subst (λ (z : RolePair). Mem z (table f 64)) (get_or-table f 64 x q l ∙ rw (lo, up) refl) (mem_at (table f 64) x q (rw (length-table f 64) l))

pub among_range : (q : RolePair) → Mem q role_pairs → RolesInRange q
unfolding role_pairs
among_range q m = each_mem RolesInRange role_pairs (each-table RolesInRange _ 64 (λ x l. omega arith)) q m

module _ (ps : List RolePair) (ok : Each RolesInRange ps) where
  -- other roles are reached from themselves alone
  pub upward_range : (r s : ℕ) → Upward ps r s → (r ≡ s) ⊎ ((r < 8) × (s < 8))
  upward_range =
      upward_least (λ r s. (r ≡ s) ⊎ ((r < 8) × (s < 8))) (λ r. inl refl) go ps (mem_each ps (λ q m. let k = each_mem RolesInRange ps ok q m in inr (omega arith, omega arith)))
    where
      go : (r s t : ℕ) → (r ≡ s) ⊎ ((r < 8) × (s < 8)) → (s ≡ t) ⊎ ((s < 8) × (t < 8)) → (r ≡ t) ⊎ ((r < 8) × (t < 8))
      go r s t (inl e) (inl f) = inl (e ∙ f)
      go r s t (inl e) (inr g) = inr (omega arith, g.1)
      go r s t (inr h) (inl f) = inr (h.0, omega arith)
      go r s t (inr h) (inr g) = inr (h.0, g.1)

  -- a role itself and those above it are the roles that are reached
  pub above-upward : (r t : ℕ) → ((t ≡ r) ⊎ Above (hierarchy ps) r t) ↔ Upward ps r t
  unfolding hierarchy
  above-upward r t = (to, from)
    where
      to : (t ≡ r) ⊎ Above (hierarchy ps) r t → Upward ps r t
      to (inl e) = subst (Upward ps r) (sym e) (upward_refl ps r)
      to (inr (q, m, (l, u))) = let h = (mem_keep (λ p. upward? ps p.lower p.upper) role_pairs q m).1 in rw (← l, ← u) h

      from : Upward ps r t → (t ≡ r) ⊎ Above (hierarchy ps) r t
      from h =
          ⊎_elim (λ e. inl (sym e)) (λ k.
          let q : RolePair = record { lower = r; upper = t } in
          inr (q, keep_mem (λ p. upward? ps p.lower p.upper) role_pairs q (pair_among q (omega (arith, k.0, k.1))) h, (refl, refl)))
          (upward_range r t h)
