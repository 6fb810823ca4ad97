-- Laws of the search: what one candidate more comes to, and that it finds the first list of which each entry may follow those before it.
-- Assumes nothing.
use mathlib.Core.Path.{◌≡◌, refl, sym, ap, ap₂, subst, ◌∙◌}
use mathlib.Core.Bool.{Bool, true, false}
use mathlib.Core.Logic.{ite, ◌↔◌}
use mathlib.Core.Option.{Option, none, some}
use mathlib.Core.List.{List, [], ◌∷◌, ◌++◌, append_assoc, append-nil}
use Prim.Native.Nat.{ℕ, zero, suc, ◌+◌, ◌-◌, ◌≤◌, ◌<◌}
use native.Mathlib.Nat.{sub-zero, not-suc-le-zero}
use native.Mathlib.Numerals.{add-one}
use native.Mathlib.Decide.{dec_lt}
use native.Mathlib.Omega.{arith}
use lib.ListN.{length, get_or, take}
use Rattle.chain.specs.Decisions.{dec_and}
use Rattle.chain.specs.Lists.{from, Ascending}
use Rattle.placement.specs.Dictionary.{Finds, try_each, seek}
use Rattle.placement.proofs.Dictionary.{seek_finds}
use Rattle.placer.specs.Walk.{further, walk, placed}

-- ---- placed or not

pub placed_true : (r : Bool) (p : List ℕ) → r ≡ true → placed r p ≡ some p
unfolding placed
placed_true r p e = ap (λ (b : Bool). placed b p) e

pub placed_false : (r : Bool) (p : List ℕ) → r ≡ false → placed r p ≡ none
unfolding placed
placed_false r p e = ap (λ (b : Bool). placed b p) e

-- ---- trying each

module _ (f : ℕ → Option (List ℕ)) (y : ℕ) (ys : List ℕ) where
  pub try_next : f y ≡ none → try_each f (y ∷ ys) ≡ try_each f ys
  unfolding try_each
  try_next e = ap (λ (o : Option (List ℕ)). elim o [ none ↦ try_each f ys | some p ↦ some (y ∷ p) ]) e

  pub try_found : (p : List ℕ) → f y ≡ some p → try_each f (y ∷ ys) ≡ some (y ∷ p)
  unfolding try_each
  try_found p e = ap (λ (o : Option (List ℕ)). elim o [ none ↦ try_each f ys | some p ↦ some (y ∷ p) ]) e

try_same : (f g : ℕ → Option (List ℕ)) → ((y : ℕ) → f y ≡ g y) → (ys : List ℕ) → try_each f ys ≡ try_each g ys
unfolding try_each
try_same f g h [] = refl
try_same f g h (y ∷ ys) =
    ap₂ (λ (o u : Option (List ℕ)). elim o [ none ↦ u | some p ↦ some (y ∷ p) ]) (h y) (try_same f g h ys)

try_none : (f : ℕ → Option (List ℕ)) → ((y : ℕ) → f y ≡ none) → (ys : List ℕ) → try_each f ys ≡ none
unfolding try_each
try_none f h [] = refl
try_none f h (y ∷ ys) = try_next f y ys (h y) ∙ try_none f h ys

-- ---- the search of `placement` depends on nothing but which lists pass

seek-same : {P Q : List ℕ → Type 0} (p : (l : List ℕ) → Dec (P l)) (q : (l : List ℕ) → Dec (Q l)) → ((l : List ℕ) → P l ↔ Q l) → (xs : List ℕ) (k : ℕ)
    → seek p xs k ≡ seek q xs k
unfolding seek
seek-same {P} {Q} p q h xs zero = go (p []) (q [])
  where
    go : (d : Dec (P [])) (e : Dec (Q [])) → ◌≡◌ {A = Option (List ℕ)} (elim d [ yes _ ↦ some [] | no _ ↦ none ]) (elim e [ yes _ ↦ some [] | no _ ↦ none ])
    go (yes a) (yes b) = refl
    go (yes a) (no b) = absurd (b ((h []).0 a))
    go (no a) (yes b) = absurd (a ((h []).1 b))
    go (no a) (no b) = refl
seek-same p q h xs (suc k) = try_same _ _ (λ y. seek-same (λ l. p (y ∷ l)) (λ l. q (y ∷ l)) (λ l. h (y ∷ l)) xs k) xs

seek-none : {P : List ℕ → Type 0} (p : (l : List ℕ) → Dec (P l)) → ((l : List ℕ) → ¬ P l) → (xs : List ℕ) (k : ℕ) → seek p xs k ≡ none
unfolding seek
seek-none {P} p n xs zero = go (p [])
  where
    go : (d : Dec (P [])) → ◌≡◌ {A = Option (List ℕ)} (elim d [ yes _ ↦ some [] | no _ ↦ none ]) none
    go (yes a) = absurd (n [] a)
    go (no a) = refl
seek-none p n xs (suc k) = try_none _ (λ y. seek-none (λ l. p (y ∷ l)) (λ l. n (y ∷ l)) xs k) xs

module _ (May : List ℕ → ℕ → Type 0) (may? : (q : List ℕ) (c : ℕ) → Dec (May q c)) where
  -- ---- one turn, over the candidates below count

  pub further-not : (w : List ℕ → Option (List ℕ)) (q : List ℕ) (c : ℕ) → ¬ May q c → further May may? w q c ≡ none
  further-not w q c n = go (may? q c)
    where
      go : (d : Dec (May q c)) → ite d (w (q ++ c ∷ [])) none ≡ none
      go (yes m) = absurd (n m)
      go (no _) = refl

  pub further-may : (w : List ℕ → Option (List ℕ)) (q : List ℕ) (c : ℕ) → May q c → further May may? w q c ≡ w (q ++ c ∷ [])
  further-may w q c m = go (may? q c)
    where
      go : (d : Dec (May q c)) → ite d (w (q ++ c ∷ [])) none ≡ w (q ++ c ∷ [])
      go (yes _) = refl
      go (no n) = absurd (n m)

  module _ (count k : ℕ) (q : List ℕ) where
    -- the rest of the search from the candidate c on, where k individuals follow the next one
    unfoldable pub rest : ℕ → Option (List ℕ)
    unfolding try_each walk from
    rest c = try_each (further May may? (walk May may? (from 0 count) k) q) (from c (count - c))

    pub rest_start : (left : ℕ) → left ≡ suc k → walk May may? (from 0 count) left q ≡ rest 0
    unfolding rest walk
    rest_start left e =
        ap (λ (j : ℕ). walk May may? (from 0 count) j q) e
        ∙ ap (λ (j : ℕ). try_each (further May may? (walk May may? (from 0 count) k) q) (from 0 j)) (sym (sub-zero count))

    pub rest_end : (c : ℕ) → count ≤ c → rest c ≡ none
    unfolding rest try_each from
    rest_end c h =
        let e : count - c ≡ 0 = omega arith in
        ap (λ (j : ℕ). try_each (further May may? (walk May may? (from 0 count) k) q) (from c j)) e

    step : (c : ℕ) → c < count → from c (count - c) ≡ c ∷ from (c + 1) (count - (c + 1))
    unfolding from
    step c h =
        let e : count - c ≡ suc (count - (c + 1)) = omega arith in
        ap (from c) e ∙ ap (λ (z : ℕ). c ∷ from z (count - (c + 1))) (sym (add-one c))

    pub rest_past : (c : ℕ) → c < count → further May may? (walk May may? (from 0 count) k) q c ≡ none → rest c ≡ rest (c + 1)
    unfolding rest
    rest_past c h e =
        ap (try_each (further May may? (walk May may? (from 0 count) k) q)) (step c h)
        ∙ try_next (further May may? (walk May may? (from 0 count) k) q) c (from (c + 1) (count - (c + 1))) e

    pub rest-not : (c : ℕ) → c < count → ¬ May q c → rest c ≡ rest (c + 1)
    rest-not c h n = rest_past c h (further-not (walk May may? (from 0 count) k) q c n)

    -- over candidates none of which may follow
    pub rest_skip : (c g : ℕ) → ((e : ℕ) → c ≤ e → e < c + g → ¬ May q e) → rest c ≡ rest (c + g)
    rest_skip c zero n = let e : c ≡ c + zero = omega arith in ap rest e
    rest_skip c (suc g) n = rest_skip c g (λ e l h. n e l (omega arith)) ∙ step_on (dec_lt (c + g) count)
      where
        step_on : Dec (c + g < count) → rest (c + g) ≡ rest (c + suc g)
        step_on (yes h) = rest-not (c + g) h (n (c + g) (omega arith) (omega arith)) ∙ (let e : c + g + 1 ≡ c + suc g = omega arith in ap rest e)
        step_on (no h) = rest_end (c + g) (omega arith) ∙ sym (rest_end (c + suc g) (omega arith))

    module _ (c : ℕ) (h : c < count) (m : May q c) where
      pub rest_back : walk May may? (from 0 count) k (q ++ c ∷ []) ≡ none → rest c ≡ rest (c + 1)
      rest_back e = rest_past c h (further-may (walk May may? (from 0 count) k) q c m ∙ e)

      pub rest-found : (p : List ℕ) → walk May may? (from 0 count) k (q ++ c ∷ []) ≡ some p → rest c ≡ some (c ∷ p)
      unfolding rest
      rest-found p e =
          ap (try_each (further May may? (walk May may? (from 0 count) k) q)) (step c h)
          ∙ try_found (further May may? (walk May may? (from 0 count) k) q) c (from (c + 1) (count - (c + 1))) p
          (further-may (walk May may? (from 0 count) k) q c m ∙ e)

  -- ---- what is found

  -- each entry of p may follow those before it and q
  abbrev pub Follows : List ℕ → List ℕ → Type 0
  Follows q [] = Unit {0}
  Follows q (c ∷ p) = May q c × Follows (q ++ c ∷ []) p

  unfoldable pub follows? : (q p : List ℕ) → Dec (Follows q p)
  unfolding dec_and
  follows? q [] = yes tt
  follows? q (c ∷ p) = dec_and (may? q c) (follows? (q ++ c ∷ []) p)

  walk-seek : (xs : List ℕ) (k : ℕ) (q : List ℕ) → walk May may? xs k q ≡ seek (follows? q) xs k
  unfolding walk seek follows?
  walk-seek xs zero q = refl
  walk-seek xs (suc k) q = try_same _ _ (λ c. go c (walk-seek xs k (q ++ c ∷ [])) (may? q c)) xs
    where
      go : (c : ℕ) → walk May may? xs k (q ++ c ∷ []) ≡ seek (follows? (q ++ c ∷ [])) xs k → (d : Dec (May q c))
          → ite d (walk May may? xs k (q ++ c ∷ [])) none ≡ seek (λ p. dec_and d (follows? (q ++ c ∷ []) p)) xs k
      go c ih (yes m) = ih ∙ seek-same (follows? (q ++ c ∷ [])) (λ p. dec_and (yes m) (follows? (q ++ c ∷ []) p)) (λ p. (λ f. (m, f), λ f. f.1)) xs k
      go c ih (no n) = sym (seek-none (λ p. dec_and (no n) (follows? (q ++ c ∷ []) p)) (λ p f. n f.0) xs k)

  pub walk_finds : (xs : List ℕ) → Ascending 0 xs → (k : ℕ) (q : List ℕ) → Finds xs k (Follows q) (walk May may? xs k q)
  walk_finds xs s k q = rw (walk-seek xs k q) (seek_finds (follows? q) xs s k)

  -- entry by entry
  pub follows-at : (p q : List ℕ) → Follows q p → (j : ℕ) → j < length p → May (q ++ take j p) (get_or p j 0)
  follows-at [] q f j h = absurd (not-suc-le-zero h)
  follows-at (c ∷ p) q f zero h = rw append-nil f.0
  follows-at (c ∷ p) q f (suc j) h = subst (λ (l : List ℕ). May l (get_or p j 0)) (append_assoc q (c ∷ []) (take j p)) (follows-at p (q ++ c ∷ []) f.1 j (omega arith))

  pub follows_made : (p q : List ℕ) → ((j : ℕ) → j < length p → May (q ++ take j p) (get_or p j 0)) → Follows q p
  follows_made [] q h = tt
  follows_made (c ∷ p) q h = (
    subst (λ (l : List ℕ). May l c) (append-nil q) (h zero (omega arith)),
    follows_made p (q ++ c ∷ []) (λ j l. subst (λ (z : List ℕ). May z (get_or p j 0)) (sym (append_assoc q (c ∷ []) (take j p))) (h (suc j) (omega arith))),
  )
