-- Laws of boxes: one bound, how lists of bounds grow, and the part in use as a box.
-- Assumes nothing.
use mathlib.Core.Path.{◌≡◌, refl, sym, ap, subst, ◌∙◌}
use mathlib.Core.Logic.{◌↔◌, dite}
use mathlib.Core.List.{List}
use Prim.Native.Nat.{ℕ, ◌+◌, ◌-◌, ◌≤◌, ◌<◌}
use native.Mathlib.Decide.{dec_lt}
use native.Mathlib.Omega.{arith}
use lib.ListN.{length, get_or, take, drop, set, length-drop}
use lib.Seq.{get_or-take, get_or-drop, get_or-set_same, get_or-set_other, length-take-le}
use borrow.Author.Count.{below_more}
use Rattle.gradings.specs.declared.Logic.{Logic}
use Rattle.boxes.specs.declared.Bound.{Bound}
use Rattle.boxes.specs.Boxes.{OnChain, Within, no_bound, bound_at, part, Asks, BoxOf, Narrowed}

-- ---- one bound

-- the grades in column t up to x, or from x on
module _ (lg : Logic) (m t x : ℕ) (in-t : t < m) (P : List ℕ → Type 0) where
  pub asks_to : ((v : List ℕ) → OnChain lg m v → (get_or v t 0 ≤ x) ↔ P v) → Asks lg m P (record { column = t; low = 0; high = x })
  asks_to f = record { column_lt = in-t; exact = λ v on. (λ w. (f v on).0 w.1, λ p. (omega arith, (f v on).1 p)) }

  pub asks_from : ((v : List ℕ) → OnChain lg m v → (x ≤ get_or v t 0) ↔ P v) → Asks lg m P (record { column = t; low = x; high = lg.steps })
  asks_from f = record { column_lt = in-t; exact = λ v on. (λ w. (f v on).0 w.0, λ p. ((f v on).1 p, on t in-t)) }

-- ---- lists of bounds

module _ (lg : Logic) (m : ℕ) where
  pub narrowed_none : (P : List ℕ → Type 0) (s : List Bound) (k : ℕ) → ((v : List ℕ) → OnChain lg m v → P v) → Narrowed lg m P s k s k
  narrowed_none P s k f = record {
    more = omega arith;
    kept = λ z l. refl;
    columns = λ x l u. absurd (omega arith);
    exact = λ v on. (λ _. f v on, λ _ x l u. absurd (omega arith));
  }

  pub narrowed_map : (P Q : List ℕ → Type 0) (old : List Bound) (k : ℕ) (new : List Bound) (r : ℕ) → ((v : List ℕ) → OnChain lg m v → P v ↔ Q v)
      → Narrowed lg m P old k new r → Narrowed lg m Q old k new r
  narrowed_map P Q old k new r f w = record {
    more = w.more;
    kept = w.kept;
    columns = w.columns;
    exact = λ v on. (λ h. (f v on).0 ((w.exact v on).0 h), λ q. (w.exact v on).1 ((f v on).1 q));
  }

  pub narrowed_then : (P Q : List ℕ → Type 0) (a : List Bound) (k : ℕ) (b : List Bound) (r : ℕ) (c : List Bound) (t : ℕ) → Narrowed lg m P a k b r
      → Narrowed lg m Q b r c t → Narrowed lg m (λ v. P v × Q v) a k c t
  narrowed_then P Q a k b r c t w u = record {
    more = omega (arith, w.more, u.more);
    kept = λ z l. u.kept z (omega (arith, w.more)) ∙ w.kept z l;
    columns = λ x l h. dite (dec_lt x r)
        (λ z. subst (λ (q : Bound). q.column < m) (sym (same x z)) (w.columns x l z))
        (λ z. u.columns x (omega arith) h);
    exact = λ v on. (
      λ h. (
        (w.exact v on).0 (λ x l z. subst (λ (q : Bound). Within q v) (same x z) (h x l (omega (arith, u.more)))),
        (u.exact v on).0 (λ x l z. h x (omega (arith, w.more)) z),
      ),
      λ p x l h. dite (dec_lt x r)
          (λ z. subst (λ (q : Bound). Within q v) (sym (same x z)) ((w.exact v on).1 p.0 x l z))
          (λ z. (u.exact v on).1 p.1 x (omega arith) h),
    );
  }
    where
      same : (x : ℕ) → x < r → bound_at c x ≡ bound_at b x
      same x z = u.kept x z

  -- the bounds for what R says of each number below y, and one more
  pub narrowed_more : (R : ℕ → List ℕ → Type 0) (y : ℕ) (q : Bound) (a : List Bound) (k : ℕ) (b : List Bound) (r : ℕ) (c : List Bound) (t : ℕ) → Asks lg m (R y) q
      → Narrowed lg m (λ v. (z : ℕ) → z < y → R z v) a k b r → Narrowed lg m (Within q) b r c t
      → Narrowed lg m (λ v. (z : ℕ) → z < y + 1 → R z v) a k c t
  narrowed_more R y q a k b r c t asks w u =
      narrowed_map (λ v. ((z : ℕ) → z < y → R z v) × Within q v) (λ v. (z : ℕ) → z < y + 1 → R z v) a k c t
      (λ v on. (
        λ h. below_more (λ z. R z v) y h.0 ((asks.exact v on).0 h.1),
        λ h. (λ z l. h z (omega arith), (asks.exact v on).1 (h y (omega arith))),
      ))
      (narrowed_then (λ v. (z : ℕ) → z < y → R z v) (Within q) a k b r c t w u)

  -- the same from y on, below n
  pub narrowed_down : (R : ℕ → List ℕ → Type 0) (y n : ℕ) (q : Bound) (a : List Bound) (k : ℕ) (b : List Bound) (r : ℕ) (c : List Bound) (t : ℕ) → y < n → Asks lg m (R y) q
      → Narrowed lg m (λ v. (z : ℕ) → y + 1 ≤ z → z < n → R z v) a k b r → Narrowed lg m (Within q) b r c t
      → Narrowed lg m (λ v. (z : ℕ) → y ≤ z → z < n → R z v) a k c t
  narrowed_down R y n q a k b r c t h asks w u =
      narrowed_map (λ v. ((z : ℕ) → y + 1 ≤ z → z < n → R z v) × Within q v) (λ v. (z : ℕ) → y ≤ z → z < n → R z v) a k c t
      (λ v on. (
        λ p z l g. dite (dec_lt y z) (λ i. p.0 z (omega arith) g)
            (λ i. let e : y ≡ z = omega arith in subst (λ (x : ℕ). R x v) e ((asks.exact v on).0 p.1)),
        λ p. (λ z l g. p z (omega arith) g, (asks.exact v on).1 (p y (omega arith) h)),
      ))
      (narrowed_then (λ v. (z : ℕ) → y + 1 ≤ z → z < n → R z v) (Within q) a k b r c t w u)

  -- bounds that stay where they are, while others are added behind them
  pub narrowed_kept : (P : List ℕ → Type 0) (old new : List Bound) (k r : ℕ) → ((z : ℕ) → z < r → bound_at new z ≡ bound_at old z) → Narrowed lg m P old k old r
      → Narrowed lg m P new k new r
  narrowed_kept P old new k r same w = record {
    more = w.more;
    kept = λ z l. refl;
    columns = λ x l h. subst (λ (q : Bound). q.column < m) (sym (same x h)) (w.columns x l h);
    exact = λ v on. (
      λ h. (w.exact v on).0 (λ x l g. subst (λ (q : Bound). Within q v) (same x g) (h x l g)),
      λ p x l g. subst (λ (q : Bound). Within q v) (sym (same x g)) ((w.exact v on).1 p x l g),
    );
  }

  -- what was added, by itself
  pub narrowed_last : (P : List ℕ → Type 0) (old : List Bound) (k : ℕ) (new : List Bound) (r : ℕ) → Narrowed lg m P old k new r → Narrowed lg m P new k new r
  narrowed_last P old k new r w = record { more = w.more; kept = λ z l. refl; columns = w.columns; exact = w.exact }

-- one bound
module _ (s : List Bound) (k : ℕ) (b : Bound) where
  pub narrowed_one : (lg : Logic) (m : ℕ) → b.column < m → k < length s → Narrowed lg m (Within b) s k (set s k b) (k + 1)
  narrowed_one lg m in_b fits = record {
    more = omega arith;
    kept = λ z l. get_or-set_other s k z b no_bound (omega arith);
    columns = λ x l u. let e : x ≡ k = omega arith in subst (λ (q : Bound). q.column < m) (sym (here x e)) in_b;
    exact = λ v on. (
      λ h. subst (λ (q : Bound). Within q v) (here k refl) (h k (omega arith) (omega arith)),
      λ p x l u. let e : x ≡ k = omega arith in subst (λ (q : Bound). Within q v) (sym (here x e)) p,
    );
  }
    where
      here : (x : ℕ) → x ≡ k → bound_at (set s k b) x ≡ b
      here x e = ap (bound_at (set s k b)) e ∙ get_or-set_same s k b no_bound fits

-- one that leaves nothing of the chain out
pub narrowed_all : (lg : Logic) (m : ℕ) (s : List Bound) (k : ℕ) (b : Bound) → b.column < m → b.low ≡ 0 → lg.steps ≤ b.high → Narrowed lg m (Within b) s k s k
narrowed_all lg m s k b in_b low high = narrowed_none lg m (Within b) s k (λ v on. (omega arith, omega (arith, on b.column in_b)))

-- ---- the part in use is a box

-- the bounds from number k up to number r
module _ (s : List Bound) (k r : ℕ) (h : k ≤ r) (long : r ≤ length s) where
  part-length : length (part s k r) ≡ r - k
  part-length = length-take-le (r - k) (drop k s) (omega (arith, length-drop k s))

  part_at : (x : ℕ) → x < r - k → bound_at (part s k r) x ≡ bound_at s (k + x)
  part_at x l = get_or-take (r - k) (drop k s) x no_bound l ∙ get_or-drop k s x no_bound

module _ (lg : Logic) (m : ℕ) (P : List ℕ → Type 0) (old : List Bound) (k : ℕ) (new : List Bound) (r : ℕ) (w : Narrowed lg m P old k new r) (long : r ≤ length new) where
  pub box-part : BoxOf lg m P (part new k r)
  box-part = record {
    columns = λ x l. let h = inside x l in subst (λ (q : Bound). q.column < m) (sym (at x h)) (w.columns (k + x) (omega arith) (omega arith));
    exact = λ v on. (
      λ i. (w.exact v on).0 (λ x l h. subst (λ (q : Bound). Within q v) (back x l h) (i (x - k) (omega (arith, part-length new k r w.more long)))),
      λ p x l. let h = inside x l in subst (λ (q : Bound). Within q v) (sym (at x h)) ((w.exact v on).1 p (k + x) (omega arith) (omega arith)),
    );
  }
    where
      inside : (x : ℕ) → x < length (part new k r) → x < r - k
      inside x l = omega (arith, part-length new k r w.more long)

      at : (x : ℕ) → x < r - k → bound_at (part new k r) x ≡ bound_at new (k + x)
      at = part_at new k r w.more long

      back : (x : ℕ) → k ≤ x → x < r → bound_at (part new k r) (x - k) ≡ bound_at new x
      back x l h = let e : k + (x - k) ≡ x = omega arith in at (x - k) (omega arith) ∙ ap (bound_at new) e

-- from the first on
module _ (lg : Logic) (m : ℕ) (P : List ℕ → Type 0) (old new : List Bound) (r : ℕ) (w : Narrowed lg m P old 0 new r) (long : r ≤ length new) where
  pub box-long : length (take r new) ≡ r
  box-long = length-take-le r new long

  pub box_of_lem : BoxOf lg m P (take r new)
  box_of_lem = let e : r - 0 ≡ r = omega arith in subst (λ (z : ℕ). BoxOf lg m P (take z new)) e (box-part lg m P old 0 new r w long)
