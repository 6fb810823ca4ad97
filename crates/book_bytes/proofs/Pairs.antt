-- The pairs of an accepted book, by its bytes.
-- Assumes nothing.
use mathlib.Core.Path.{◌≡◌, refl, sym, ap, ◌∙◌}
use mathlib.Core.List.{List, [], ◌∷◌}
use Prim.Native.Nat.{ℕ, ◌+◌, ◌-◌, ◌*◌, ◌<◌}
use native.Mathlib.Omega.{arith}
use lib.ListN.{length, get_or, drop}
use lib.Seq.{get_or-take, get_or-drop}
use Rattle.chain.proofs.Lists.{length-table, get_or-table}
use Rattle.encoding.proofs.Stretches.{length-stretch}
use Rattle.semantics.specs.Roles.{RolePair}
use Rattle.claims.specs.Pairs.{pair_count, pair_at, pairs_of}
use Rattle.heads.specs.Heads.{edition, offset_at, count_at, count_of_pairs}
use Rattle.layout.specs.Layout.{sections_of, pair_bytes}
use Rattle.heads.proofs.Editions.{edition_second}
use Rattle.book.specs.Reading.{book_of}
use Rattle.book.specs.Opening.{Accepts}
use Rattle.book.proofs.Opening.{accepts_right, right-ordered}

module _ (b : List ℕ) (ok : Accepts b) (second : edition b ≡ 2) where
  -- as many as the fifth entry counts
  section_length : length (pair_bytes b (sections_of b)) ≡ 2 * count_at b 4
  unfolding sections_of
  section_length =
      let s = sections_of b in
      let o = right-ordered b s (accepts_right b ok) in
      let n : count_of_pairs b ≡ count_at b 4 = edition_second (edition b) (count_at b 4) 0 second in
      length-stretch b s.pairs s.end o.5 ∙ omega (arith, n)

  count_is : pair_count (pair_bytes b (sections_of b)) ≡ count_at b 4
  count_is = omega (arith, section_length)

  pub pairs-counted : length (book_of b).pairs ≡ count_at b 4
  unfolding book_of pairs_of
  pairs-counted = length-table (pair_at (pair_bytes b (sections_of b))) (pair_count (pair_bytes b (sections_of b))) ∙ count_is

  -- from where it names
  byte_at : (j : ℕ) → j < 2 * count_at b 4 → get_or (pair_bytes b (sections_of b)) j 0 ≡ get_or b (offset_at b 4 + j) 0
  unfolding sections_of
  byte_at j h =
      let s = sections_of b in
      let right = accepts_right b ok in
      let n : count_of_pairs b ≡ count_at b 4 = edition_second (edition b) (count_at b 4) 0 second in
      let at : offset_at b 4 ≡ s.pairs = right.laid_out.1.1.1.1.0 second in
      get_or-take (s.end - s.pairs) (drop s.pairs b) j 0 (omega (arith, n))
      ∙ get_or-drop s.pairs b j 0 ∙ ap (λ (z : ℕ). get_or b (z + j) 0) (sym at)

  pub pairs_read : (i : ℕ) (d : RolePair) → i < count_at b 4
      → get_or (book_of b).pairs i d ≡ record { lower = get_or b (offset_at b 4 + 2 * i) 0; upper = get_or b (offset_at b 4 + (2 * i + 1)) 0 }
  unfolding book_of pairs_of
  pairs_read i d h =
      get_or-table (pair_at (pair_bytes b (sections_of b))) (pair_count (pair_bytes b (sections_of b))) i d (omega (arith, count_is))
      ∙ rw (byte_at (2 * i) (omega arith), byte_at (2 * i + 1) (omega arith)) refl

  -- where it counts none, the section is empty
  pub no_pairs : count_at b 4 ≡ 0 → pair_bytes b (sections_of b) ≡ []
  no_pairs e = go (pair_bytes b (sections_of b)) (omega (arith, section_length))
    where
      go : (xs : List ℕ) → length xs ≡ 0 → xs ≡ []
      go [] h = refl
      go (x ∷ xs) h = absurd (omega arith)
