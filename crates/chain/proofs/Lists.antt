-- Laws of lists as finite sets.
-- Assumes nothing.
use mathlib.Core.Path.{◌≡◌, refl, sym, ap, ap₂, subst, ◌∙◌}
use mathlib.Core.Logic.{◌⊎◌, inl, inr, ⊎_elim, ite, ◌↔◌}
use mathlib.Core.List.{List, [], ◌∷◌, ◌++◌, map, flat_map, zip_with, append-nil, append_assoc}
use Prim.Native.Nat.{ℕ, zero, suc, ◌+◌, ◌≤◌, ◌<◌, max}
use native.Mathlib.Nat.{not-suc-le-zero, add-zero, zero-add, suc-add, add-suc}
use native.Mathlib.Decide.{ℕ_discrete}
use native.Mathlib.Numerals.{add-one}
use native.Mathlib.Omega.{arith}
use lib.ListN.{length, get_or, take, drop, set, replicate, length-append, length-drop, length-replicate}
use lib.Seq.{append_snoc, drop-cons, drop-length, set_at, take_at}
use Rattle.chain.specs.Search.{First, first, rank}
use Rattle.chain.specs.Lists.{Mem, Each, highest, table, keep, from, Ascending, index}
use Rattle.chain.proofs.Search.{below_cases}

-- ---- a list of zeros, as a fresh table is

pub zeros-long : (k : ℕ) → k ≤ length (replicate {A = ℕ} k 0)
zeros-long k = omega (arith, length-replicate {A = ℕ} k 0)

pub zeros-at : (k i : ℕ) → get_or (replicate {A = ℕ} k 0) i 0 ≡ 0
zeros-at zero i = refl
zeros-at (suc k) zero = refl
zeros-at (suc k) (suc i) = zeros-at k i

-- ---- members

module _ {A : Type 0} where
  pub each_map : {P Q : A → Type 0} → ((x : A) → P x → Q x) → (xs : List A) → Each P xs → Each Q xs
  each_map f [] h = tt
  each_map f (x ∷ xs) h = (f x h.0, each_map f xs h.1)

  pub each_map₂ : {P Q R : A → Type 0} → ((x : A) → P x → Q x → R x) → (xs : List A) → Each P xs → Each Q xs → Each R xs
  each_map₂ f [] h g = tt
  each_map₂ f (x ∷ xs) h g = (f x h.0 g.0, each_map₂ f xs h.1 g.1)

  pub each_map₃ : {P Q R S : A → Type 0} → ((x : A) → P x → Q x → R x → S x) → (xs : List A) → Each P xs → Each Q xs → Each R xs → Each S xs
  each_map₃ f [] h g k = tt
  each_map₃ f (x ∷ xs) h g k = (f x h.0 g.0 k.0, each_map₃ f xs h.1 g.1 k.1)

  pub each_append : (P : A → Type 0) (xs ys : List A) → Each P (xs ++ ys) ↔ (Each P xs × Each P ys)
  each_append P [] ys = (λ h. (tt, h), λ h. h.1)
  each_append P (x ∷ xs) ys =
      let w = each_append P xs ys in
      (λ h. let u = w.0 h.1 in ((h.0, u.0), u.1), λ h. (h.0.0, w.1 (h.0.1, h.1)))

  pub each_mem : (P : A → Type 0) (xs : List A) → Each P xs → (x : A) → Mem x xs → P x
  each_mem P [] h x m = absurd m
  each_mem P (y ∷ ys) h x (inl e) = subst P (sym e) h.0
  each_mem P (y ∷ ys) h x (inr m) = each_mem P ys h.1 x m

  pub mem_each : {P : A → Type 0} (xs : List A) → ((x : A) → Mem x xs → P x) → Each P xs
  mem_each [] h = tt
  mem_each (x ∷ xs) h = (h x (inl refl), mem_each xs (λ y m. h y (inr m)))

  pub mem_at : (xs : List A) (k : ℕ) (d : A) → k < length xs → Mem (get_or xs k d) xs
  mem_at [] k d h = absurd (not-suc-le-zero h)
  mem_at (x ∷ xs) zero d h = inl refl
  mem_at (x ∷ xs) (suc k) d h = inr (mem_at xs k d (omega arith))

  pub at_mem : (xs : List A) (d x : A) → Mem x xs → (k : ℕ) × (k < length xs) × (get_or xs k d ≡ x)
  at_mem [] d x m = absurd m
  at_mem (y ∷ ys) d x (inl e) = (0, omega arith, sym e)
  at_mem (y ∷ ys) d x (inr m) = let w = at_mem ys d x m in (suc w.0, omega arith, w.2)

  -- what holds of each member, by number
  pub each_at : (P : A → Type 0) (xs : List A) (d : A) → Each P xs ↔ ((k : ℕ) → k < length xs → P (get_or xs k d))
  each_at P xs d = (
    λ h k l. each_mem P xs h (get_or xs k d) (mem_at xs k d l),
    λ f. mem_each xs (λ x m. let w = at_mem xs d x m in subst P w.2 (f w.0 w.1)),
  )

  -- ---- the highest

  pub highest-each : (f : A → ℕ) (xs : List A) (n : ℕ) → Each (λ x. f x ≤ n) xs → highest f xs ≤ n
  unfolding highest
  highest-each f [] n h = omega arith
  highest-each f (x ∷ xs) n h = omega (arith, h.0, highest-each f xs n h.1)

  pub each-highest : (f : A → ℕ) (xs : List A) (n : ℕ) → highest f xs ≤ n → Each (λ x. f x ≤ n) xs
  unfolding highest
  each-highest f [] n h = tt
  each-highest f (x ∷ xs) n h = (omega arith, each-highest f xs n (omega arith))

  -- ---- tables

  pub length-table : (f : ℕ → A) (n : ℕ) → length (table f n) ≡ n
  unfolding table
  length-table f zero = refl
  length-table f (suc n) = ap suc (length-table (λ i. f (suc i)) n)

  pub get_or-table : (f : ℕ → A) (n i : ℕ) (d : A) → i < n → get_or (table f n) i d ≡ f i
  unfolding table
  get_or-table f zero i d h = absurd (not-suc-le-zero h)
  get_or-table f (suc n) zero d h = refl
  get_or-table f (suc n) (suc i) d h = get_or-table (λ j. f (suc j)) n i d (omega arith)

  pub each-table : (P : A → Type 0) (f : ℕ → A) (n : ℕ) → ((i : ℕ) → i < n → P (f i)) → Each P (table f n)
  unfolding table
  each-table P f zero h = tt
  each-table P f (suc n) h = (h zero (omega arith), each-table P (λ i. f (suc i)) n (λ i l. h (suc i) (omega arith)))

  pub table-each : (P : A → Type 0) (f : ℕ → A) (n : ℕ) → Each P (table f n) → (i : ℕ) → i < n → P (f i)
  unfolding table
  table-each P f zero h i l = absurd (not-suc-le-zero l)
  table-each P f (suc n) h zero l = h.0
  table-each P f (suc n) h (suc i) l = table-each P (λ j. f (suc j)) n h.1 i (omega arith)

  pub table_same : (f g : ℕ → A) (n : ℕ) → ((i : ℕ) → i < n → f i ≡ g i) → table f n ≡ table g n
  unfolding table
  table_same f g zero h = refl
  table_same f g (suc n) h =
      ap₂ {C = List A} ◌∷◌ (h zero (omega arith)) (table_same (λ i. f (suc i)) (λ i. g (suc i)) n (λ i l. h (suc i) (omega arith)))

  pub highest-none : (f : A → ℕ) (g : ℕ → A) → 0 ≡ highest f (table g 0)
  unfolding highest table
  highest-none f g = refl

  -- what holds of the default too holds at every index
  pub every_table : (P : A → Type 0) (f : ℕ → A) (n : ℕ) (d : A) → P d → ((i : ℕ) → i < n → P (f i)) → (i : ℕ) → P (get_or (table f n) i d)
  unfolding table
  every_table P f zero d z h i = z
  every_table P f (suc n) d z h zero = h zero (omega arith)
  every_table P f (suc n) d z h (suc i) = every_table P (λ j. f (suc j)) n d z (λ j l. h (suc j) (omega arith)) i

  -- one entry more, at the end
  pub table-snoc : (f : ℕ → A) (n : ℕ) → table f (suc n) ≡ table f n ++ (f n ∷ [])
  unfolding table
  table-snoc f zero = refl
  table-snoc f (suc n) = ap {B = List A} (λ xs. f zero ∷ xs) (table-snoc (λ i. f (suc i)) n)

  -- a list whose first n entries are overwritten by a table's, as a loop fills it: none yet, its length, its front, and one entry more
  pub zero_filled : (f : ℕ → A) (xs : List A) → xs ≡ table f 0 ++ drop 0 xs
  unfolding table
  zero_filled f xs = refl

  module _ (f : ℕ → A) (xs : List A) (n : ℕ) where
    pub length_filled : n ≤ length xs → length (table f n ++ drop n xs) ≡ length xs
    length_filled h = omega (arith, length-append (table f n) (drop n xs), length-table f n, length-drop n xs)

    pub take_filled : take n (table f n ++ drop n xs) ≡ table f n
    take_filled = take_at (table f n) (drop n xs) n (length-table f n)

    pub set_filled : n < length xs → set (table f n ++ drop n xs) n (f n) ≡ table f (n + 1) ++ drop (n + 1) xs
    set_filled h =
        rw (add-one n, drop-cons xs n (f n) h, set_at (table f n) (get_or xs n (f n)) (drop (suc n) xs) (f n) n (length-table f n), table-snoc f n)
        (sym (append_snoc (table f n) (f n) (drop (suc n) xs)))

  -- all of it overwritten
  pub table_filled : (f : ℕ → A) (n : ℕ) (d l : List A) → l ≡ table f n ++ drop n d → n ≡ length d → l ≡ table f (length d)
  table_filled f n d l e h = e ∙ rw (h, drop-length, append-nil)

  -- and no more than what none passes
  pub highest-most : (f : A → ℕ) (g : ℕ → A) (n m : ℕ) → ((i : ℕ) → i < n → f (g i) ≤ m) → highest f (table g n) ≤ m
  unfolding table highest
  highest-most f g zero m h = omega arith
  highest-most f g (suc n) m h = omega (arith, h zero (omega arith), highest-most f (λ i. g (suc i)) n m (λ i l. h (suc i) (omega arith)))

  pub highest-at : (f : A → ℕ) (g : ℕ → A) (n i : ℕ) → i < n → f (g i) ≤ highest f (table g n)
  unfolding highest table
  highest-at f g zero i h = absurd (not-suc-le-zero h)
  highest-at f g (suc n) zero h = omega arith
  highest-at f g (suc n) (suc i) h = omega (arith, highest-at f (λ j. g (suc j)) n i (omega arith))

  -- one entry more, at the end, as a loop meets it
  pub highest-table : (f : A → ℕ) (g : ℕ → A) (n : ℕ) → highest f (table g (n + 1)) ≡ max (highest f (table g n)) (f (g n))
  unfolding highest table
  highest-table f g n = rw (add-one n) (go g n)
    where
      go : (g : ℕ → A) (n : ℕ) → highest f (table g (suc n)) ≡ max (highest f (table g n)) (f (g n))
      go g zero = omega arith
      go g (suc n) = let ih = go (λ i. g (suc i)) n in omega arith

  -- ---- the members that pass

  module _ {P : A → Type 0} (p : (x : A) → Dec (P x)) where
    pub mem_keep : (xs : List A) (x : A) → Mem x (keep p xs) → Mem x xs × P x
    unfolding keep
    mem_keep [] x m = absurd m
    mem_keep (y ∷ ys) x m = go (p y) (mem_keep ys x) m
      where
        go : (d : Dec (P y)) → (Mem x (keep p ys) → Mem x ys × P x) → Mem x (ite {C = List A} d (y ∷ keep p ys) (keep p ys)) → Mem x (y ∷ ys) × P x
        go (yes q) f (inl e) = (inl e, subst P (sym e) q)
        go (yes q) f (inr n) = (inr (f n).0, (f n).1)
        go (no _) f n = (inr (f n).0, (f n).1)

    pub keep_mem : (xs : List A) (x : A) → Mem x xs → P x → Mem x (keep p xs)
    unfolding keep
    keep_mem [] x m q = absurd m
    keep_mem (y ∷ ys) x m q = go (p y) (keep_mem ys x) m
      where
        go : (d : Dec (P y)) → (Mem x ys → P x → Mem x (keep p ys)) → Mem x (y ∷ ys) → Mem x (ite {C = List A} d (y ∷ keep p ys) (keep p ys))
        go (yes _) f (inl e) = inl e
        go (yes _) f (inr n) = inr (f n q)
        go (no n) f (inl e) = absurd (n (subst P e q))
        go (no n) f (inr k) = f k q

    -- all pass, or fewer are kept
    keep_le : (xs : List A) → length (keep p xs) ≤ length xs
    unfolding keep
    keep_le [] = omega arith
    keep_le (x ∷ xs) = go (p x) (keep_le xs)
      where
        go : (d : Dec (P x)) → length (keep p xs) ≤ length xs → length (ite {C = List A} d (x ∷ keep p xs) (keep p xs)) ≤ length (x ∷ xs)
        go (yes _) h = omega arith
        go (no _) h = omega arith

    pub keep_less : (xs : List A) → Each P xs ⊎ (length (keep p xs) < length xs)
    unfolding keep
    keep_less [] = inl tt
    keep_less (x ∷ xs) = go (p x) (keep_less xs)
      where
        go : (d : Dec (P x)) → Each P xs ⊎ (length (keep p xs) < length xs)
            → Each P (x ∷ xs) ⊎ (length (ite {C = List A} d (x ∷ keep p xs) (keep p xs)) < length (x ∷ xs))
        go (yes q) (inl h) = inl (q, h)
        go (yes q) (inr l) = inr (omega arith)
        go (no n) h = inr (omega (arith, keep_le xs))

-- two tests that pass the same members keep the same
pub keep_same : {A : Type 0} {P Q : A → Type 0} (p : (x : A) → Dec (P x)) (q : (x : A) → Dec (Q x)) (xs : List A)
    → ((x : A) → Mem x xs → P x ↔ Q x) → keep p xs ≡ keep q xs
unfolding keep
keep_same p q [] h = refl
keep_same {A} {P} {Q} p q (x ∷ xs) h = go (p x) (q x) (keep_same p q xs (λ y m. h y (inr m)))
  where
    go : (d : Dec (P x)) (e : Dec (Q x)) → keep p xs ≡ keep q xs
        → ite {C = List A} d (x ∷ keep p xs) (keep p xs) ≡ ite {C = List A} e (x ∷ keep q xs) (keep q xs)
    go (yes a) (yes b) ih = ap (λ (ys : List A). x ∷ ys) ih
    go (yes a) (no n) ih = absurd (n ((h x (inl refl)).0 a))
    go (no n) (yes b) ih = absurd (n ((h x (inl refl)).1 b))
    go (no n) (no m) ih = ih

-- the highest of a table, from other tables entry by entry
pub each_mapped : {A B : Type 0} (P : B → Type 0) (f : A → B) (Q : A → Type 0) → ((x : A) → P (f x) ↔ Q x) → (xs : List A) → Each P (map f xs) ↔ Each Q xs
each_mapped P f Q same [] = (λ _. tt, λ _. tt)
each_mapped P f Q same (x ∷ xs) =
    let w = each_mapped P f Q same xs in
    (λ h. ((same x).0 h.0, w.0 h.1), λ h. ((same x).1 h.0, w.1 h.1))

pub map-each-same : {A : Type 0} {P : A → Type 0} (f : A → A) → ((x : A) → P x → f x ≡ x) → (xs : List A) → Each P xs → map f xs ≡ xs
map-each-same f same [] h = refl
map-each-same f same (x ∷ xs) h = ap₂ ◌∷◌ (same x h.0) (map-each-same f same xs h.1)

pub highest_mapped : {A B : Type 0} (f : B → ℕ) (g : A → B) (xs : List A) → highest f (map g xs) ≡ highest (λ x. f (g x)) xs
unfolding highest
highest_mapped f g [] = refl
highest_mapped f g (x ∷ xs) = ap (max (f (g x))) (highest_mapped f g xs)

pub each-flat_map : {A B : Type 0} (P : B → Type 0) (f : A → List B) (xs : List A) → Each (λ x. Each P (f x)) xs → Each P (flat_map f xs)
unfolding flat_map
each-flat_map P f [] h = tt
each-flat_map P f (x ∷ xs) h = (each_append P (f x) (flat_map f xs)).1 (h.0, each-flat_map P f xs h.1)

pub table-map : {A B : Type 0} (f : A → B) (g : ℕ → A) (n : ℕ) → table (λ i. f (g i)) n ≡ map f (table g n)
unfolding table
table-map f g zero = refl
table-map {B = B} f g (suc n) = ap {B = List B} (λ ys. f (g zero) ∷ ys) (table-map f (λ i. g (suc i)) n)

pub highest-append : {A : Type 0} (f : A → ℕ) (xs ys : List A) → highest f (xs ++ ys) ≡ max (highest f xs) (highest f ys)
unfolding highest
highest-append f [] ys = omega arith
highest-append f (x ∷ xs) ys = omega (arith, highest-append f xs ys)

pub zip_tables : {A B C : Type 0} (f : A → B → C) (a : ℕ → A) (b : ℕ → B) (n : ℕ) → zip_with f (table a n) (table b n) ≡ table (λ i. f (a i) (b i)) n
unfolding zip_with table
zip_tables f a b zero = refl
zip_tables {C = C} f a b (suc n) = ap {B = List C} (λ xs. f (a zero) (b zero) ∷ xs) (zip_tables f (λ i. a (suc i)) (λ i. b (suc i)) n)

pub highest-same : {A B : Type 0} (f : A → ℕ) (g : B → ℕ) (a : ℕ → A) (b : ℕ → B) (n : ℕ) → ((i : ℕ) → f (a i) ≡ g (b i))
    → highest f (table a n) ≡ highest g (table b n)
unfolding highest table
highest-same f g a b zero e = refl
highest-same f g a b (suc n) e = ap₂ max (e 0) (highest-same f g (λ i. a (suc i)) (λ i. b (suc i)) n (λ i. e (suc i)))

pub highest-max : {A B C : Type 0} (f : A → ℕ) (g : B → ℕ) (h : C → ℕ) (a : ℕ → A) (b : ℕ → B) (c : ℕ → C) (n : ℕ)
    → ((i : ℕ) → f (a i) ≡ max (g (b i)) (h (c i))) → highest f (table a n) ≡ max (highest g (table b n)) (highest h (table c n))
unfolding highest table
highest-max f g h a b c zero e = omega arith
highest-max f g h a b c (suc n) e =
    let ih = highest-max f g h (λ i. a (suc i)) (λ i. b (suc i)) (λ i. c (suc i)) n (λ i. e (suc i)) in
    omega (arith, e 0)

-- ---- where a number stands

pub index_lt : (xs : List ℕ) (x : ℕ) → 0 < length xs → index xs x < length xs
unfolding index
index_lt xs x h = go (first (λ k. ℕ_discrete (get_or xs k 0) x) (length xs))
  where
    go : (w : First (λ k. ℕ_discrete (get_or xs k 0) x) (length xs)) → ⊎_elim (λ u. u.0) (λ _. 0) w < length xs
    go (inl w) = w.1
    go (inr _) = h

pub at-index : (xs : List ℕ) (x : ℕ) → Mem x xs → get_or xs (index xs x) 0 ≡ x
unfolding index
at-index xs x m = go (first (λ k. ℕ_discrete (get_or xs k 0) x) (length xs))
  where
    go : (w : First (λ k. ℕ_discrete (get_or xs k 0) x) (length xs)) → get_or xs (⊎_elim (λ u. u.0) (λ _. 0) w) 0 ≡ x
    go (inl w) = w.2
    go (inr f) = let u = at_mem xs 0 x m in absurd (f u.0 u.1 u.2)

-- ---- n numbers from a on

pub length_from : (a n : ℕ) → length (from a n) ≡ n
unfolding from
length_from a zero = refl
length_from a (suc n) = ap suc (length_from (suc a) n)

pub mem_from : (a n x : ℕ) → Mem x (from a n) → (a ≤ x) × (x < a + n)
unfolding from
mem_from a zero x m = absurd m
mem_from a (suc n) x (inl e) = omega arith
mem_from a (suc n) x (inr m) = let h = mem_from (suc a) n x m in omega arith

pub from_mem : (a n x : ℕ) → a ≤ x → x < a + n → Mem x (from a n)
unfolding from
from_mem a zero x h l = absurd (omega arith)
from_mem a (suc n) x h l = ⊎_elim (λ e. inl (sym e)) (λ k. inr (from_mem (suc a) n x k (omega arith))) (below_cases x a (omega arith))

-- what stands for each of them, one after another
module _ {A : Type 0} where
  pub flat_map-same : (f g : ℕ → List A) (a n : ℕ) → ((x : ℕ) → x < a + n → f x ≡ g x) → flat_map f (from a n) ≡ flat_map g (from a n)
  unfolding flat_map from
  flat_map-same f g a zero h = refl
  flat_map-same f g a (suc n) h = ap₂ {C = List A} ◌++◌ (h a (omega arith)) (flat_map-same f g (suc a) n (λ x l. h x (omega arith)))

  -- none, and one more, at the end
  pub flat_map-none : (f : ℕ → List A) (a : ℕ) → flat_map f (from a 0) ≡ []
  unfolding flat_map from
  flat_map-none f a = refl

  pub flat_map-more : (f : ℕ → List A) (a n : ℕ) → flat_map f (from a (suc n)) ≡ flat_map f (from a n) ++ f (a + n)
  unfolding flat_map from
  flat_map-more f a zero = let e : a + 0 ≡ a = omega arith in rw (e, append-nil)
  flat_map-more f a (suc n) =
      let e : a + suc n ≡ suc a + n = omega arith in
      rw (e, append_assoc) (ap (λ (r : List A). f a ++ r) (flat_map-more f (suc a) n))

-- ---- ascending lists

pub ascending_weaken : (a b : ℕ) → a ≤ b → (xs : List ℕ) → Ascending b xs → Ascending a xs
ascending_weaken a b h [] s = tt
ascending_weaken a b h (x ∷ xs) s = (omega arith, s.1)

pub ascending_from : (a n : ℕ) → Ascending a (from a n)
unfolding from
ascending_from a zero = tt
ascending_from a (suc n) = (omega arith, ascending_from (suc a) n)

pub ascending_mem : (b : ℕ) (xs : List ℕ) → Ascending b xs → (x : ℕ) → Mem x xs → b ≤ x
ascending_mem b [] s x m = absurd m
ascending_mem b (y ∷ ys) s x (inl e) = omega arith
ascending_mem b (y ∷ ys) s x (inr m) = omega (arith, ascending_mem (suc y) ys s.1 x m)

pub ascending_keep : {P : ℕ → Type 0} (p : (x : ℕ) → Dec (P x)) (b : ℕ) (xs : List ℕ) → Ascending b xs → Ascending b (keep p xs)
unfolding keep
ascending_keep p b [] s = tt
ascending_keep {P} p b (x ∷ xs) s = go (p x) (ascending_keep p (suc x) xs s.1)
  where
    go : (d : Dec (P x)) → Ascending (suc x) (keep p xs) → Ascending b (ite {C = List ℕ} d (x ∷ keep p xs) (keep p xs))
    go (yes _) t = (s.0, t)
    go (no _) t = ascending_weaken b (suc x) (omega arith) (keep p xs) t

-- an ascending list is known by its members
pub ascending_same : (b : ℕ) (xs ys : List ℕ) → Ascending b xs → Ascending b ys → ((c : ℕ) → Mem c xs ↔ Mem c ys) → xs ≡ ys
ascending_same b [] [] s t e = refl
ascending_same b [] (y ∷ ys) s t e = absurd ((e y).1 (inl refl))
ascending_same b (x ∷ xs) [] s t e = absurd ((e x).0 (inl refl))
ascending_same b (x ∷ xs) (y ∷ ys) s t e =
    let head : x ≡ y = ⊎_elim (λ q. q) (λ m. ⊎_elim (λ q. sym q) (λ n.
    absurd (omega (arith, ascending_mem (suc y) ys t.1 x m, ascending_mem (suc x) xs s.1 y n))) ((e y).1 (inl refl))) ((e x).0 (inl refl)) in
    ap₂ {C = List ℕ} ◌∷◌ head
    (ascending_same (suc x) xs ys s.1 (subst (λ (z : ℕ). Ascending (suc z) ys) (sym head) t.1) (λ c. (
      λ m. ⊎_elim (λ q. absurd (omega (arith, ascending_mem (suc x) xs s.1 c m))) (λ n. n) ((e c).0 (inr m)),
      λ m. ⊎_elim (λ q. absurd (omega (arith, ascending_mem (suc y) ys t.1 c m))) (λ n. n) ((e c).1 (inr m)),
    )))

-- as many numbers are kept as the rank says
pub length-keep-from : {P : ℕ → Type 0} (p : (x : ℕ) → Dec (P x)) (n : ℕ) → length (keep p (from 0 n)) ≡ rank p n
unfolding keep from rank
length-keep-from {P} p n = omega (arith, go 0 n, ap (rank p) (zero-add n), none)
  where
    none : rank p 0 ≡ 0
    none = refl

    go : (a m : ℕ) → length (keep p (from a m)) + rank p a ≡ rank p (a + m)
    go a zero = rw (add-zero a) (omega arith)
    go a (suc m) = at (p a) (go (suc a) m)
      where
        at : (d : Dec (P a)) → length (keep p (from (suc a) m)) + ite d (suc (rank p a)) (rank p a) ≡ rank p (suc a + m)
            → length (ite {C = List ℕ} d (a ∷ keep p (from (suc a) m)) (keep p (from (suc a) m))) + rank p a ≡ rank p (a + suc m)
        at (yes _) h = omega (arith, ap (rank p) (suc-add a m ∙ sym (add-suc a m)))
        at (no _) h = omega (arith, ap (rank p) (suc-add a m ∙ sym (add-suc a m)))
