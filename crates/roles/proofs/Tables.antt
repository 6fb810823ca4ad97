-- Laws of the table of the roles that are reached: a row joined to another, a pair followed, and the hierarchy that it stands for.
-- Assumes nothing.
use mathlib.Core.Path.{◌≡◌, sym, ap, subst, ◌∙◌}
use mathlib.Core.Logic.{◌⊎◌, inl, inr, ⊎_elim, ◌↔◌, dite}
use mathlib.Core.List.{List, [], ◌∷◌}
use Prim.Native.Nat.{ℕ, suc, ◌+◌, ◌*◌, ◌≤◌, ◌<◌}
use native.Mathlib.Decide.{ℕ_discrete}
use native.Mathlib.Omega.{arith}
use lib.ListN.{length, get_or, set, drop}
use lib.Seq.{get_or-set_same, get_or-set_other, drop-cons, drop-length}
use Rattle.chain.proofs.Lists.{keep_same, length-table, get_or-table}
use Rattle.semantics.specs.Roles.{RolePair, upward?, role_pairs, hierarchy}
use Rattle.semantics.proofs.Roles.{among_range}
use Rattle.claims.specs.Pairs.{pair_count, pair_at, pairs_of, PairsRight}
use Rattle.roles.specs.Tables.{Marked, Reaches, hierarchy_in, Copied, Joined, JoinedWhere, Linked, Diagonal}

-- one mark more
module _ (t : List ℕ) (r k : ℕ) (hr : r < 8) (hk : k < 8) (long : 64 ≤ length t) where
  marked-set : (x y : ℕ) → x < 8 → y < 8 → Marked (set t (8 * r + k) 1) x y ↔ (Marked t x y ⊎ ((x ≡ r) × (y ≡ k)))
  marked-set x y hx hy =
      dite (ℕ_discrete (8 * x + y) (8 * r + k))
      (λ e. (λ _. inr (omega arith, omega arith), λ _. rw e (get_or-set_same t (8 * r + k) 1 0 (omega arith))))
      (λ n. let o = get_or-set_other t (8 * r + k) (8 * x + y) 1 0 n in (λ m. inl (sym o ∙ m), λ s. ⊎_elim (λ m. o ∙ m) (λ p. absurd (n (omega (arith, p.0, p.1)))) s))

-- ---- a row joined to another

module _ (r u : ℕ) (hr : r < 8) (hu : u < 8) where
  pub joined_none : (t : List ℕ) → Joined r u 0 t t
  joined_none t x y hx hy = (λ m. inl m, λ s. ⊎_elim (λ m. m) (λ p. absurd (omega (arith, p.1))) s)

  module _ (k : ℕ) (hk : k < 8) (old new : List ℕ) (j : Joined r u k old new) where
    -- the row that is added stays as it is, also where a row is joined to itself
    joined_row : Marked new u k → Marked old u k
    joined_row m = ⊎_elim (λ h. h) (λ p. p.2) ((j u k hu hk).0 m)

    joined_kept : ¬ Marked new u k → Joined r u (k + 1) old new
    joined_kept n x y hx hy = (
      λ m. ⊎_elim (λ h. inl h) (λ p. inr (p.0, omega (arith, p.1), p.2)) ((j x y hx hy).0 m),
      λ s. ⊎_elim (λ h. (j x y hx hy).1 (inl h))
          (λ p. dite (ℕ_discrete y k) (λ e. absurd (n ((j u k hu hk).1 (inl (subst (Marked old u) e p.2)))))
          (λ d. (j x y hx hy).1 (inr (p.0, omega (arith, p.1), p.2)))) s,
    )

    joined_put : 64 ≤ length new → Marked new u k → Joined r u (k + 1) old (set new (8 * r + k) 1)
    joined_put long m x y hx hy = (
      λ h. ⊎_elim (λ g. ⊎_elim (λ a. inl a) (λ p. inr (p.0, omega (arith, p.1), p.2)) ((j x y hx hy).0 g))
          (λ p. inr (p.0, omega (arith, p.1), rw p.1 (joined_row m))) ((marked-set new r k hr hk long x y hx hy).0 h),
      λ s. (marked-set new r k hr hk long x y hx hy).1 (⊎_elim (λ a. inl ((j x y hx hy).1 (inl a)))
          (λ p. dite (ℕ_discrete y k) (λ e. inr (p.0, e)) (λ d. inl ((j x y hx hy).1 (inr (p.0, omega (arith, p.1), p.2))))) s),
    )

    pub joined_more : (last : List ℕ) → 64 ≤ length new → Copied (8 * u + k) (8 * r + k) new last → Joined r u (k + 1) old last
    joined_more last long c =
        dite (ℕ_discrete (get_or new (8 * u + k) 0) 1) (λ m. subst (Joined r u (k + 1) old) (sym (c.0 m)) (joined_put long m))
        (λ n. subst (Joined r u (k + 1) old) (sym (c.1 n)) (joined_kept n))

-- ---- a pair followed

module _ (l u : ℕ) (hl : l < 8) (hu : u < 8) where
  pub linked-none : (t : List ℕ) → Linked l u 0 t t
  linked-none t x y hx hy = (λ m. inl m, λ s. ⊎_elim (λ m. m) (λ p. absurd (omega (arith, p.0))) s)

  module _ (k : ℕ) (hk : k < 8) (old new : List ℕ) (j : Linked l u k old new) where
    linked-kept : ¬ Marked new k l → Linked l u (k + 1) old new
    linked-kept n x y hx hy = (
      λ m. ⊎_elim (λ h. inl h) (λ p. inr (omega (arith, p.0), p.1, p.2)) ((j x y hx hy).0 m),
      λ s. ⊎_elim (λ h. (j x y hx hy).1 (inl h))
          (λ p. dite (ℕ_discrete x k) (λ e. absurd (n ((j k l hk hl).1 (inl (subst (λ (z : ℕ). Marked old z l) e p.1)))))
          (λ d. (j x y hx hy).1 (inr (omega (arith, p.0), p.1, p.2)))) s,
    )

    linked_joined : (last : List ℕ) → Marked new k l → Joined k u 8 new last → Linked l u (k + 1) old last
    linked_joined last m f x y hx hy = (
      λ h. ⊎_elim (λ g. ⊎_elim (λ a. inl a) (λ p. inr (omega (arith, p.0), p.1, p.2)) ((j x y hx hy).0 g))
          (λ p. inr (omega (arith, p.0), rw p.0 (⊎_elim (λ a. a) (λ q. absurd (omega (arith, q.0))) ((j k l hk hl).0 m)), row y hy p.2))
          ((f x y hx hy).0 h),
      λ s. (f x y hx hy).1 (⊎_elim (λ a. inl ((j x y hx hy).1 (inl a)))
          (λ p. dite (ℕ_discrete x k) (λ e. inr (e, hy, (j u y hu hy).1 (inl p.2)))
          (λ d. inl ((j x y hx hy).1 (inr (omega (arith, p.0), p.1, p.2))))) s),
    )
      where
        -- the row of the upper role is the same all the while
        row : (y : ℕ) → y < 8 → Marked new u y → Marked old u y
        row y hy h = ⊎_elim (λ a. a) (λ p. p.2) ((j u y hu hy).0 h)

    pub linked-more : (last : List ℕ) → JoinedWhere k l u new last → Linked l u (k + 1) old last
    linked-more last c =
        dite (ℕ_discrete (get_or new (8 * k + l) 0) 1) (λ m. linked_joined last m (c.0 m))
        (λ n. subst (Linked l u (k + 1) old) (sym (c.1 n)) (linked-kept n))

-- ---- each role reaches itself

pub diagonal_none : (t : List ℕ) → ((z : ℕ) → get_or t z 0 ≡ 0) → Diagonal 0 t
diagonal_none t zeros x y hx hy = (λ m. absurd (omega (arith, m, zeros (8 * x + y))), λ p. absurd (omega (arith, p.0)))

pub diagonal_more : (k : ℕ) (t : List ℕ) → k < 8 → 64 ≤ length t → Diagonal k t → Diagonal (k + 1) (set t (9 * k) 1)
diagonal_more k t hk long d x y hx hy =
    let e : 8 * k + k ≡ 9 * k = omega arith in
    subst (λ (z : ℕ). Marked (set t z 1) x y ↔ ((x < k + 1) × (x ≡ y))) e (
      λ h. ⊎_elim (λ m. let p = (d x y hx hy).0 m in (omega (arith, p.0), p.1)) (λ p. (omega (arith, p.0), p.0 ∙ sym p.1))
          ((marked-set t k k hk hk long x y hx hy).0 h),
      λ p. (marked-set t k k hk hk long x y hx hy).1
          (dite (ℕ_discrete x k) (λ c. inr (c, sym p.1 ∙ c)) (λ n. inl ((d x y hx hy).1 (omega (arith, p.0), p.1)))),
    )

-- ---- what is reached

reaches_none : (t : List ℕ) → Diagonal 8 t → Reaches [] t
reaches_none t d r s hr hs = (λ m. ((d r s hr hs).0 m).1, λ e. (d r s hr hs).1 (hr, e))

reaches_more : (q : RolePair) (qs : List RolePair) (old new : List ℕ) → q.lower < 8 → q.upper < 8 → Reaches qs old
    → Linked q.lower q.upper 8 old new → Reaches (q ∷ qs) new
reaches_more q qs old new hl hu of k r s hr hs = (
  λ m. ⊎_elim (λ h. inl ((of r s hr hs).0 h)) (λ p. inr ((of r q.lower hr hl).0 p.1, (of q.upper s hu hs).0 p.2)) ((k r s hr hs).0 m),
  λ h. (k r s hr hs).1 (⊎_elim (λ a. inl ((of r s hr hs).1 a)) (λ p. inr (hr, (of r q.lower hr hl).1 p.0, (of q.upper s hu hs).1 p.1)) h),
)

-- with the pairs of a section, the last first
module _ (s : List ℕ) where
  pub reaches_start : (t : List ℕ) → Diagonal 8 t → Reaches (drop (pair_count s) (pairs_of s)) t
  unfolding pairs_of
  reaches_start t d =
      subst (λ (ps : List RolePair). Reaches ps t)
      (sym (ap (λ (n : ℕ). drop n (pairs_of s)) (sym (length-table (pair_at s) (pair_count s))) ∙ drop-length (pairs_of s))) (reaches_none t d)

  pub reaches_next : (i n : ℕ) (old new : List ℕ) → n ≡ suc i → i < pair_count s → PairsRight s → Reaches (drop n (pairs_of s)) old
      → Linked (pair_at s i).lower (pair_at s i).upper 8 old new → Reaches (drop i (pairs_of s)) new
  unfolding pairs_of
  reaches_next i n old new e l ok of k =
      subst (λ (ps : List RolePair). Reaches ps new)
      (sym (drop-cons (pairs_of s) i (pair_at s i) (rw (length-table (pair_at s) (pair_count s)) l)
      ∙ ap (λ (q : RolePair). q ∷ drop (suc i) (pairs_of s)) (get_or-table (pair_at s) (pair_count s) i (pair_at s i) l)))
      (reaches_more (pair_at s i) (drop (suc i) (pairs_of s)) old new (ok i l).0 (ok i l).1
      (subst (λ (m : ℕ). Reaches (drop m (pairs_of s)) old) e of) k)

-- the table stands for the hierarchy of the pairs
pub reaches_hierarchy : (ps : List RolePair) (t : List ℕ) → Reaches ps t → hierarchy_in t ≡ hierarchy ps
unfolding hierarchy_in hierarchy
reaches_hierarchy ps t of =
    keep_same (λ q. ℕ_discrete (get_or t (8 * q.lower + q.upper) 0) 1) (λ q. upward? ps q.lower q.upper) role_pairs
    (λ q m. let h = among_range q m in of q.lower q.upper (omega arith) (omega arith))
