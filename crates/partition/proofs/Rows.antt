-- Laws of classes: a row written, the index, a candidate enrolled, and candidates one after the other.
-- Assumes nothing.
use mathlib.Core.Path.{◌≡◌, refl, sym, ap, subst, ◌∙◌}
use mathlib.Core.Logic.{dite}
use mathlib.Core.List.{List, [], ◌++◌}
use Prim.Native.Nat.{ℕ, ◌+◌, ◌<◌}
use native.Mathlib.Decide.{ℕ_discrete, dec_lt}
use native.Mathlib.Omega.{arith}
use lib.ListN.{length, get_or, take, set, get_or-append}
use lib.Seq.{get_or-take, get_or-set_same, get_or-set_other}
use borrow.Author.Count.{below_more}
use Rattle.zones.specs.Rows.{row_in, cell}
use Rattle.partition.specs.Rows.{IsRow, KeptRows, Names, Enrolled, Classified}

-- a row that begins with just these entries
pub row-of : (rows : List (List ℕ)) (k : ℕ) (row : List ℕ) → take (length row) (row_in rows k) ≡ row → IsRow rows k row
row-of rows k row e q h = sym (get_or-take (length row) (row_in rows k) q 0 h) ∙ ap (λ (v : List ℕ). get_or v q 0) e

-- a row that is written, and begins with these
pub row-written : (rows : List (List ℕ)) (k : ℕ) (row u rest : List ℕ) → k < length rows → u ≡ row → IsRow (set rows k (u ++ rest)) k row
row-written rows k row u rest h e q l =
    ap (λ (v : List ℕ). get_or v q 0) (get_or-set_same rows k (u ++ rest) [] h) ∙ get_or-append u rest 0 q (rw e l)
    ∙ ap (λ (v : List ℕ). get_or v q 0) e

-- the index with one name more
pub names_more : (index : List ℕ) (key k : ℕ) → key < length index → Names index k → Names (set index key (k + 1)) (k + 1)
names_more index key k h f i =
    dite (ℕ_discrete i key)
    (λ e. omega (arith, subst (λ (z : ℕ). get_or (set index key (k + 1)) z 0 ≡ k + 1) (sym e) (get_or-set_same index key (k + 1) 0 h)))
    (λ n. omega (arith, get_or-set_other index key i (k + 1) 0 n, f i))

module _ (row : List ℕ) (rows : List (List ℕ)) (class : List ℕ) (c count : ℕ) (h : c < length class) where
  -- a class that is known
  pub enrolled_known : (k : ℕ) → k < count → IsRow rows k row → Enrolled row rows rows class (set class c k) c count count
  enrolled_known k l f =
      let e = get_or-set_same class c k 0 h in
      record {
        grows = omega arith;
        at_most = omega arith;
        class_lt = omega arith;
        row_is = subst (λ (z : ℕ). IsRow rows z row) (sym e) f;
        kept = λ i _. refl;
        others = λ d n. get_or-set_other class c d k 0 n;
        new = λ z a b. absurd (omega arith);
      }

  -- the next
  pub enrolled_next : (k : ℕ) → k ≡ count → (rows' : List (List ℕ)) → IsRow rows' count row → KeptRows count rows rows'
      → Enrolled row rows rows' class (set class c k) c count (count + 1)
  enrolled_next k w rows' f g =
      let e = get_or-set_same class c k 0 h in
      record {
        grows = omega arith;
        at_most = omega arith;
        class_lt = omega arith;
        row_is = subst (λ (z : ℕ). IsRow rows' z row) (sym (e ∙ w)) f;
        kept = g;
        others = λ d n. get_or-set_other class c d k 0 n;
        new = λ z a b. omega arith;
      }

-- ---- candidates one after the other

pub classified_none : (f : ℕ → ℕ → ℕ) (m : ℕ) (rows : List (List ℕ)) (class : List ℕ) → Classified f m rows class 0 0
classified_none f m rows class = record {
  known = λ c h. absurd (omega arith);
  are = λ c h. absurd (omega arith);
  each = λ k h. absurd (omega arith);
  few = omega arith;
}

pub classified_more : (f : ℕ → ℕ → ℕ) (m : ℕ) (rows rows' : List (List ℕ)) (class class' row : List ℕ) (b count r : ℕ) → length row ≡ m
    → ((q : ℕ) → q < m → get_or row q 0 ≡ f b q) → Classified f m rows class b count → Enrolled row rows rows' class class' b count r
    → Classified f m rows' class' (b + 1) r
classified_more f m rows rows' class class' row b count r long g C E = record {
  known = below_more (λ c. get_or class' c 0 < r) b (λ c l. omega (arith, C.known c l, E.others c (omega arith), E.grows)) E.class_lt;
  are = below_more (λ c. (q : ℕ) → q < m → cell rows' (get_or class' c 0) q ≡ f c q) b
      (λ c l q i.
      let k = C.known c l in
      ap (λ (z : ℕ). cell rows' z q) (E.others c (omega arith)) ∙ ap (λ (v : List ℕ). get_or v q 0) (E.kept (get_or class c 0) k) ∙ C.are c l q i)
      (λ q i. E.row_is q (omega arith) ∙ g q i);
  each = λ k l. dite (dec_lt k count)
      (λ p. let u = C.each k p in let w = u.1 in (u.0, omega arith, E.others u.0 (omega arith) ∙ u.2))
      (λ p. (b, omega arith, E.new k (omega arith) l));
  few = omega (arith, C.few, E.at_most);
}
