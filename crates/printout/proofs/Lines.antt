-- Laws of the lines: how code makes them piece by piece.
-- Assumes nothing.
use mathlib.Core.Path.{◌≡◌, refl, sym, ap, ◌∙◌}
use mathlib.Core.Logic.{ite}
use mathlib.Core.List.{List, [], ◌∷◌, ◌++◌, flat_map, append-nil, append_assoc}
use Prim.Native.Nat.{ℕ, ◌+◌, ◌<◌}
use native.Mathlib.Numerals.{add-one}
use native.Mathlib.Omega.{arith}
use lib.ListN.{length, get_or, take}
use lib.Seq.{take-suc}
use Rattle.chain.specs.Lists.{keep, from}
use Rattle.chain.proofs.Lists.{flat_map-none, flat_map-more}
use Rattle.gradings.specs.Gradings.{grading}
use Rattle.gradings.specs.declared.Logic.{Logic}
use Rattle.sections.specs.Terms.{terms_of, TermsRight}
use Rattle.grades.specs.Rows.{row_of}
use Rattle.grades.proofs.Rows.{row-at-most}
use Rattle.printout.specs.Text.{bytes, digit_byte}
use Rattle.printout.specs.Lines.{labelled, newline, spaced, type_line, type_lines, individual_line, individual_lines}
use Rattle.printout.proofs.Decimal.{decimal_small}

pub newline-is : 10 ∷ [] ≡ newline
unfolding newline bytes
newline-is = refl

-- ---- grades

-- a grade of one digit: a space and the digit
pub spaced_small : (g : ℕ) → g < 10 → 32 ∷ digit_byte g ∷ [] ≡ spaced g
unfolding spaced labelled bytes
spaced_small g h = ap (λ (ds : List ℕ). 32 ∷ ds) (sym (decimal_small g h))

pub length-spaced : (g : ℕ) → g < 10 → length (spaced g) ≡ 2
length-spaced g h = sym (ap length (spaced_small g h))

module _ (f : ℕ → List ℕ) where
  flat_map-last : (xs : List ℕ) (x : ℕ) → flat_map f (xs ++ (x ∷ [])) ≡ flat_map f xs ++ f x
  unfolding flat_map
  flat_map-last [] x = append-nil (f x)
  flat_map-last (y ∷ ys) x = rw append_assoc (ap (λ (l : List ℕ). f y ++ l) (flat_map-last ys x))

  -- over none of a list, one entry more, and all of it
  pub flat_map_start : (xs : List ℕ) → [] ≡ flat_map f (take 0 xs)
  unfolding flat_map
  flat_map_start xs = refl

  pub flat_map-next : (xs : List ℕ) (i : ℕ) → i < length xs → flat_map f (take i xs) ++ f (get_or xs i 0) ≡ flat_map f (take (i + 1) xs)
  flat_map-next xs i h = rw add-one (sym (ap (flat_map f) (take-suc xs i 0 h) ∙ flat_map-last (take i xs) (get_or xs i 0)))

  -- over the members that pass a test
  flat_map-keep : {P : ℕ → Type 0} (p : (x : ℕ) → Dec (P x)) (xs : List ℕ)
      → flat_map (λ x. ite {C = List ℕ} (p x) (f x) []) xs ≡ flat_map f (keep p xs)
  unfolding flat_map keep
  flat_map-keep p [] = refl
  flat_map-keep {P} p (x ∷ xs) = go (p x) (flat_map-keep p xs)
    where
      go : (d : Dec (P x)) {l : List ℕ} → l ≡ flat_map f (keep p xs)
          → ite {C = List ℕ} d (f x) [] ++ l ≡ flat_map f (ite {C = List ℕ} d (x ∷ keep p xs) (keep p xs))
      go (yes _) e = ap (λ (l : List ℕ). f x ++ l) e
      go (no _) e = e

-- ---- a candidate's row

-- of one-digit grades, where the chain's are
pub row_digits : (lg : Logic) (s : List ℕ) (c : ℕ) → TermsRight s → lg.steps < 10 → (i : ℕ) → get_or (row_of (grading lg (terms_of s)) c) i 0 < 10
row_digits lg s c h l i = omega (arith, row-at-most lg s c h i)

-- ---- the lines of types, candidate by candidate

module _ (row : ℕ → List ℕ) {P : ℕ → Type 0} (p : (x : ℕ) → Dec (P x)) where
  -- candidate c's line where it passes
  abbrev pub line_if : ℕ → List ℕ
  line_if c = ite {C = List ℕ} (p c) (type_line c (row c)) []

  pub types-none : (a : ℕ) → [] ≡ flat_map line_if (from a 0)
  types-none a = sym (flat_map-none line_if a)

  pub types_more : (a n : ℕ) → flat_map line_if (from a n) ++ line_if (a + n) ≡ flat_map line_if (from a (n + 1))
  types_more a n = rw add-one (sym (flat_map-more line_if a n))

  pub types-all : (a n : ℕ) → flat_map line_if (from a n) ≡ type_lines row (keep p (from a n))
  unfolding type_lines
  types-all a n = flat_map-keep (λ c. type_line c (row c)) p (from a n)

-- ---- the lines of individuals, one by one

pub individuals-none : (at : ℕ → ℕ) → [] ≡ individual_lines at 0
unfolding individual_lines
individuals-none at = sym (flat_map-none (λ j. individual_line j (at j)) 0)

pub individuals-more : (at : ℕ → ℕ) (n : ℕ) → individual_lines at n ++ individual_line n (at n) ≡ individual_lines at (n + 1)
unfolding individual_lines
individuals-more at n =
    let e : 0 + n ≡ n = omega arith in
    rw add-one (sym (rw e at (flat_map-more (λ j. individual_line j (at j)) 0 n)))
