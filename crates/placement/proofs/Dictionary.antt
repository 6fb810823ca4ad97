-- Laws of the first list in dictionary order: what holds of it entry by entry, that there is only one, and that the search finds it.
-- Assumes nothing.
use mathlib.Core.Path.{◌≡◌, refl, sym, ap, ap₂, subst, ◌∙◌}
use mathlib.Core.Logic.{◌↔◌, ◌⊎◌, inl, inr, ⊎_elim}
use mathlib.Core.Option.{Option, none, some}
use mathlib.Core.List.{List, [], ◌∷◌}
use Prim.Native.Nat.{ℕ, zero, suc, ◌≤◌, ◌<◌}
use native.Mathlib.Nat.{suc_inj, suc-ne-zero}
use native.Mathlib.Decide.{dec_lt}
use native.Mathlib.Omega.{arith}
use lib.ListN.{length, get_or}
use Rattle.chain.specs.Lists.{Mem, Ascending}
use Rattle.chain.proofs.Lists.{ascending_mem}
use Rattle.placement.specs.Dictionary.{NotAfter, Drawn, Foremost, Nowhere, Finds, try_each, seek}

-- ---- no entries; one entry more

pub foremost_empty : (xs : List ℕ) (P : List ℕ → Type 0) → P [] → Foremost xs zero P []
foremost_empty xs P h = record { drawn = (refl, tt); passes = h; foremost = λ q _ _. tt }

pub nowhere_empty : (xs : List ℕ) (P : List ℕ → Type 0) → ¬ P [] → Nowhere xs zero P
nowhere_empty xs P n [] l h = n h
nowhere_empty xs P n (z ∷ q) l h = suc-ne-zero (length q) l.0

module _ (xs : List ℕ) (k : ℕ) (P : List ℕ → Type 0) where
  pub nowhere_cons : ((y : ℕ) → Mem y xs → Nowhere xs k (λ p. P (y ∷ p))) → Nowhere xs (suc k) P
  nowhere_cons f [] l h = suc-ne-zero k (sym l.0)
  nowhere_cons f (z ∷ q) l h = f z l.1.0 q (suc_inj l.0, l.1.1) h

  pub foremost_cons : (y : ℕ) (p : List ℕ) → Mem y xs → ((z : ℕ) → Mem z xs → z < y → Nowhere xs k (λ q. P (z ∷ q)))
      → Foremost xs k (λ q. P (y ∷ q)) p → Foremost xs (suc k) P (y ∷ p)
  foremost_cons y p m f w = record {
    drawn = (ap suc w.drawn.0, (m, w.drawn.1));
    passes = w.passes;
    foremost = go;
  }
    where
      go : (q : List ℕ) → Drawn xs (suc k) q → P q → NotAfter (y ∷ p) q
      go [] l h = absurd (suc-ne-zero k (sym l.0))
      go (z ∷ q) l h = at (dec_lt z y) (dec_lt y z)
        where
          r : Drawn xs k q
          r = (suc_inj l.0, l.1.1)

          at : Dec (z < y) → Dec (y < z) → NotAfter (y ∷ p) (z ∷ q)
          at (yes a) e = absurd (f z l.1.0 a q r h)
          at (no a) (yes b) = inl b
          at (no a) (no b) =
              let e : z ≡ y = omega arith in
              inr (sym e, w.foremost q r (subst (λ (x : ℕ). P (x ∷ q)) e h))

  -- through the members in order: those that are not in ys are done, and lead nowhere
  try_finds : (rest : ℕ → Option (List ℕ)) → ((y : ℕ) → Finds xs k (λ p. P (y ∷ p)) (rest y)) → (ys : List ℕ) (b : ℕ) → Ascending b ys
      → ((y : ℕ) → Mem y ys → Mem y xs) → ((z : ℕ) → Mem z xs → Mem z ys ⊎ Nowhere xs k (λ q. P (z ∷ q))) → Finds xs (suc k) P (try_each rest ys)
  unfolding try_each
  try_finds rest found [] b s into done = nowhere_cons (λ y m. ⊎_elim (λ n. absurd n) (λ n. n) (done y m))
  try_finds rest found (y ∷ ys) b s into done = go (rest y) (found y) (λ f. try_finds rest found ys (suc y) s.1 (λ z m. into z (inr m)) (next f))
    where
      earlier : (z : ℕ) → Mem z xs → z < y → Nowhere xs k (λ q. P (z ∷ q))
      earlier z m l = ⊎_elim (λ n. absurd (⊎_elim (λ e. omega arith) (λ o. omega (arith, ascending_mem (suc y) ys s.1 z o)) n)) (λ n. n) (done z m)

      next : Nowhere xs k (λ q. P (y ∷ q)) → (z : ℕ) → Mem z xs → Mem z ys ⊎ Nowhere xs k (λ q. P (z ∷ q))
      next f z m =
          ⊎_elim (λ n. ⊎_elim (λ e. inr (subst (λ (x : ℕ). Nowhere xs k (λ q. P (x ∷ q))) (sym e) f)) (λ o. inl o) n) (λ n. inr n) (done z m)

      go : (o : Option (List ℕ)) → Finds xs k (λ p. P (y ∷ p)) o → (Nowhere xs k (λ q. P (y ∷ q)) → Finds xs (suc k) P (try_each rest ys))
          → Finds xs (suc k) P (elim o [ none ↦ try_each rest ys | some p ↦ some (y ∷ p) ])
      go none f later = later f
      go (some p) w later = foremost_cons y p (into y (inl refl)) earlier w

-- ---- dictionary order

pub not-after_refl : (p : List ℕ) → NotAfter p p
not-after_refl [] = tt
not-after_refl (x ∷ p) = inr (refl, not-after_refl p)

pub not-after_trans : (p q r : List ℕ) → NotAfter p q → NotAfter q r → NotAfter p r
not-after_trans [] q r h g = tt
not-after_trans (x ∷ p) [] r h g = absurd h
not-after_trans (x ∷ p) (y ∷ q) [] h g = absurd g
not-after_trans (x ∷ p) (y ∷ q) (z ∷ r) (inl h) (inl g) = inl (omega arith)
not-after_trans (x ∷ p) (y ∷ q) (z ∷ r) (inl h) (inr g) = inl (omega (arith, g.0))
not-after_trans (x ∷ p) (y ∷ q) (z ∷ r) (inr h) (inl g) = inl (omega (arith, h.0))
not-after_trans (x ∷ p) (y ∷ q) (z ∷ r) (inr h) (inr g) = inr (h.0 ∙ g.0, not-after_trans p q r h.1 g.1)

-- entries that are nowhere greater
pub not-after-below : (p q : List ℕ) → length p ≡ length q → ((j : ℕ) → j < length p → get_or p j 0 ≤ get_or q j 0) → NotAfter p q
not-after-below [] q l h = tt
not-after-below (x ∷ p) [] l h = absurd (suc-ne-zero (length p) l)
not-after-below (x ∷ p) (y ∷ q) l h = at (dec_lt x y) (not-after-below p q (suc_inj l) (λ j g. h (suc j) (omega arith)))
  where
    at : Dec (x < y) → NotAfter p q → NotAfter (x ∷ p) (y ∷ q)
    at (yes g) rest = inl g
    at (no n) rest = let z : x ≤ y = h zero (omega arith) in inr (omega arith, rest)

-- ---- A search among fewer lists finds what is first among all, if they keep, for each that passes, one that passes and is not after it.

pub finds_fewer : (xs ys : List ℕ) (k : ℕ) (P Q : List ℕ → Type 0) → ((p : List ℕ) → Drawn xs k p → P p → Drawn ys k p × Q p)
    → ((p : List ℕ) → Drawn ys k p → Q p → (q : List ℕ) × Drawn xs k q × P q × NotAfter q p) → (o : Option (List ℕ)) → Finds xs k P o → Finds ys k Q o
finds_fewer xs ys k P Q into kept none f = λ p d h. let u = kept p d h in f u.0 u.1 u.2
finds_fewer xs ys k P Q into kept (some p) w =
    let u = into p w.drawn w.passes in record {
      drawn = u.0;
      passes = u.1;
      foremost = λ q d h. let v = kept q d h in not-after_trans p v.0 q (w.foremost v.0 v.1 v.2) v.3;
    }

-- ---- the search finds the first, or there is none

pub seek_finds : {P : List ℕ → Type 0} (test : (p : List ℕ) → Dec (P p)) (xs : List ℕ) → Ascending 0 xs → (k : ℕ) → Finds xs k P (seek test xs k)
unfolding seek
seek_finds {P} test xs s zero = go (test [])
  where
    go : (d : Dec (P [])) → Finds xs zero P (elim d [ yes _ ↦ some [] | no _ ↦ none ])
    go (yes h) = foremost_empty xs P h
    go (no n) = nowhere_empty xs P n
seek_finds {P} test xs s (suc k) =
    try_finds xs k P (λ y. seek (λ p. test (y ∷ p)) xs k) (λ y. seek_finds (λ p. test (y ∷ p)) xs s k) xs 0 s (λ y m. m) (λ z m. inl m)

-- ---- and whatever finds it finds the same

pub before_antisymm : (p q : List ℕ) → length p ≡ length q → NotAfter p q → NotAfter q p → p ≡ q
before_antisymm [] [] l h g = refl
before_antisymm [] (y ∷ q) l h g = absurd (suc-ne-zero (length q) (sym l))
before_antisymm (x ∷ p) [] l h g = absurd (suc-ne-zero (length p) l)
before_antisymm (x ∷ p) (y ∷ q) l (inl h) (inl g) = absurd (omega arith)
before_antisymm (x ∷ p) (y ∷ q) l (inl h) (inr g) = absurd (omega (arith, g.0))
before_antisymm (x ∷ p) (y ∷ q) l (inr h) (inl g) = absurd (omega (arith, h.0))
before_antisymm (x ∷ p) (y ∷ q) l (inr h) (inr g) = ap₂ {C = List ℕ} ◌∷◌ h.0 (before_antisymm p q (suc_inj l) h.1 g.1)

-- by another test that asks the same
pub finds_iff : (xs : List ℕ) (k : ℕ) (P Q : List ℕ → Type 0) → ((p : List ℕ) → P p ↔ Q p) → (o : Option (List ℕ)) → Finds xs k P o → Finds xs k Q o
finds_iff xs k P Q same none f = λ p d q. f p d ((same p).1 q)
finds_iff xs k P Q same (some p) f = record { drawn = f.drawn; passes = (same p).0 f.passes; foremost = λ q d h. f.foremost q d ((same q).1 h) }

pub finds_same : (xs : List ℕ) (k : ℕ) (P : List ℕ → Type 0) (o u : Option (List ℕ)) → Finds xs k P o → Finds xs k P u → o ≡ u
finds_same xs k P none none f g = refl
finds_same xs k P none (some q) f g = absurd (f q g.drawn g.passes)
finds_same xs k P (some p) none f g = absurd (g p f.drawn f.passes)
finds_same xs k P (some p) (some q) f g =
    ap {B = Option (List ℕ)} some
    (before_antisymm p q (f.drawn.0 ∙ sym g.drawn.0) (f.foremost q g.drawn g.passes) (g.foremost p f.drawn f.passes))
