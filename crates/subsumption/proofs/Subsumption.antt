-- Laws of the table of implied rules, of listed types: which pairs a type refutes, what the bytes are, and that the survivors' types decide it for every
-- finite interpretation.
-- Assumes nothing.
use mathlib.Core.Path.{◌≡◌, refl, ap, subst, ◌∙◌}
use mathlib.Core.Logic.{dite, ite, ◌↔◌, ◌⊎◌, inl, inr}
use mathlib.Core.List.{List, [], ◌∷◌, flat_map}
use Prim.Native.Nat.{ℕ, ◌+◌, ◌*◌, ◌/◌, ◌%◌, ◌^◌, ◌≤◌, ◌<◌}
use native.Mathlib.Nat.{le_refl, le_trans}
use native.Mathlib.Decide.{dec_le}
use native.Mathlib.Omega.{arith}
use lib.ListN.{length, get_or}
use Rattle.chain.specs.Lists.{Mem, Each, table, from}
use Rattle.chain.proofs.Lists.{each_mem, mem_each, at_mem, length-table, get_or-table, table_same, flat_map-same}
use Rattle.chain.proofs.Blocks.{length_blocks, at_rows}
use Rattle.encoding.specs.Bits.{Bit}
use Rattle.encoding.proofs.Bits.{word_bits}
use Rattle.semantics.specs.Interpretations.{Grading, Interpretation}
use Rattle.semantics.specs.Books.{Book, Rule, Valid, MeetsRule, RuleModel}
use Rattle.types.specs.Candidates.{grade_in, type_of}
use Rattle.types.proofs.Candidates.{type_of_has}
use Rattle.sections.specs.Terms.{term_count, terms_of}
use Rattle.sections.proofs.Terms.{length-terms}
use Rattle.gradings.specs.Gradings.{grading}
use Rattle.gradings.specs.declared.Logic.{Logic}
use Rattle.grades.specs.Rows.{row_of}
use Rattle.grades.proofs.Rows.{row-length, row-grades}
use Rattle.elimination.specs.Survivors.{survivors_of}
use Rattle.elimination.specs.Marks.{Marked, marked}
use Rattle.elimination.proofs.Survivors.{survivors_sound}
use Rattle.elimination.proofs.Complete.{complete}
use Rattle.elimination.proofs.Listed.{survives_realised}
use Rattle.elimination.proofs.Marks.{marked_mem}
use Rattle.subsumption.specs.Subsumption.{Subsumed, subsumed?, implied_byte, implied_row, implied_table}
use Rattle.term_sets.specs.Sets.{Narrowed, set_table}
use Rattle.term_sets.proofs.Sets.{narrowed_same}

-- ---- one type

-- narrowed by a candidate's row: by its grades
pub narrowed_row : (lg : Logic) (s : List ℕ) (c : ℕ) (row was now : List ℕ) → row ≡ row_of (grading lg (terms_of s)) c
    → Narrowed (length row) was now (λ i j. get_or row i 0 ≤ get_or row j 0)
    → Narrowed (term_count s) was now (λ i j. grade_in (grading lg (terms_of s)) c i ≤ grade_in (grading lg (terms_of s)) c j)
narrowed_row lg s c row was now e w =
    let long : length row ≡ term_count s = ap length e ∙ row-length lg s c in
    let at : (i : ℕ) → i < term_count s → get_or row i 0 ≡ grade_in (grading lg (terms_of s)) c i =
    λ i h. ap (λ (l : List ℕ). get_or l i 0) e ∙ row-grades (grading lg (terms_of s)) c i (rw (length-terms s) h) in
    narrowed_same (term_count s) was now (λ i j. get_or row i 0 ≤ get_or row j 0) _
    (λ i j h l. (λ g. rw (← at i h, ← at j l) g, λ g. rw (at i h, at j l) g))
    (subst (λ (n : ℕ). Narrowed n was now (λ i j. get_or row i 0 ≤ get_or row j 0)) long w)

-- ---- the listed types

-- from full sets, narrowed by the types of the marked candidates: right term j is in the set of left term i if it subsumes it
pub narrowed_marked : (G : Grading) (marks : List ℕ) (count n : ℕ) (was now : List ℕ) → n ≤ 64
    → ((i : ℕ) → i < n → get_or was i 0 ≡ 18446744073709551615)
    → Narrowed n was now (λ i j. (d : ℕ) → d < count → Marked marks d → grade_in G d i ≤ grade_in G d j)
    → (i j : ℕ) → i < n → j < n → Bit (get_or now i 0) j ↔ Subsumed G (marked marks count) i j
narrowed_marked G marks count n was now few full w i j h l =
    let u = w i j h l in (
      λ b. mem_each (marked marks count) (λ d m. let v = (marked_mem marks count d).0 m in (u.0 b).1 d v.0 v.1),
      λ e. u.1 (rw (full i h) (word_bits j (omega arith)), λ d k m. each_mem _ (marked marks count) e d ((marked_mem marks count d).1 (k, m))),
    )

-- ---- the bytes

module _ (G : Grading) (cs : List ℕ) where
  -- a bit that says so is the byte
  bit_byte : (word i j : ℕ) → Bit word j ↔ Subsumed G cs i j → word / 2 ^ j % 2 ≡ implied_byte G cs i j
  bit_byte word i j w = go (subsumed? G cs i j)
    where
      go : (d : Dec (Subsumed G cs i j)) → word / 2 ^ j % 2 ≡ ite d 1 0
      go (yes h) = w.1 h
      go (no n) = let m : ¬ (word / 2 ^ j % 2 ≡ 1) = λ b. n (w.0 b) in omega (arith, m)

  pub sets_table : (n : ℕ) (sets : List ℕ) → n ≡ length G.terms → ((i j : ℕ) → i < n → j < n → Bit (get_or sets i 0) j ↔ Subsumed G cs i j)
      → set_table n sets n ≡ implied_table G cs
  unfolding set_table implied_table
  sets_table n sets e w =
      flat_map-same _ _ 0 n (λ i h. table_same _ _ n (λ j l. bit_byte (get_or sets i 0) i j (w i j (omega arith) l)))
      ∙ ap (λ (t : ℕ). flat_map (λ i. table (implied_byte G cs i) t) (from 0 t)) e

  abbrev width : ℕ
  width = length G.terms

  pub length_implied : length (implied_table G cs) ≡ width * width
  unfolding implied_table
  length_implied = length_blocks (implied_row G cs) width (λ i. length-table _ width) 0 width

  -- byte left · T + right
  pub implied_at : (i j : ℕ) → i < width → j < width → get_or (implied_table G cs) (width * i + j) 0 ≡ implied_byte G cs i j
  unfolding implied_table
  implied_at i j h l = at_rows (implied_row G cs) width (λ i. length-table _ width) width i j h l ∙ get_or-table (implied_byte G cs i) width j 0 l

  -- what a byte says
  pub byte-says : (i j : ℕ) → (implied_byte G cs i j ≡ 1) ↔ Subsumed G cs i j
  byte-says i j = go (subsumed? G cs i j)
    where
      go : (d : Dec (Subsumed G cs i j)) → (ite {C = ℕ} d 1 0 ≡ 1) ↔ Subsumed G cs i j
      go (yes h) = (λ _. h, λ _. refl)
      go (no n) = (λ e. absurd (omega (arith, e)), λ h. absurd (n h))

  pub byte_else : (i j : ℕ) → (implied_byte G cs i j ≡ 0) ↔ (¬ Subsumed G cs i j)
  byte_else i j = go (subsumed? G cs i j)
    where
      go : (d : Dec (Subsumed G cs i j)) → (ite {C = ℕ} d 1 0 ≡ 0) ↔ (¬ Subsumed G cs i j)
      go (yes h) = (λ e. absurd (omega (arith, e)), λ n. absurd (n h))
      go (no n) = (λ _. n, λ _. refl)

  pub byte-bit : (i j : ℕ) → (implied_byte G cs i j ≡ 0) ⊎ (implied_byte G cs i j ≡ 1)
  byte-bit i j = go (subsumed? G cs i j)
    where
      go : (d : Dec (Subsumed G cs i j)) → (ite {C = ℕ} d 1 0 ≡ 0) ⊎ (ite {C = ℕ} d 1 0 ≡ 1)
      go (yes h) = inr refl
      go (no n) = inl refl

  -- bytes that say the same are the same
  pub byte-same : (H : Grading) (ds : List ℕ) (i j x y : ℕ) → Subsumed G cs i j ↔ Subsumed H ds x y → implied_byte G cs i j ≡ implied_byte H ds x y
  byte-same H ds i j x y w = go (subsumed? G cs i j) (subsumed? H ds x y)
    where
      go : (d : Dec (Subsumed G cs i j)) (e : Dec (Subsumed H ds x y)) → ite {C = ℕ} d 1 0 ≡ ite e 1 0
      go (yes h) (yes k) = refl
      go (yes h) (no n) = absurd (n (w.0 h))
      go (no n) (yes k) = absurd (n (w.1 k))
      go (no n) (no m) = refl

  -- ---- reflexive and transitive; where it does not hold, a type shows it

  pub none-subsumed : length cs ≡ 0 → (i j : ℕ) → Subsumed G cs i j
  none-subsumed e i j = mem_each cs (λ c m. absurd (omega (arith, (at_mem cs 0 c m).1, e)))

  pub subsumed_refl : (i : ℕ) → Subsumed G cs i i
  subsumed_refl i = mem_each cs (λ c m. le_refl _)

  pub subsumed_trans : (i j k : ℕ) → Subsumed G cs i j → Subsumed G cs j k → Subsumed G cs i k
  subsumed_trans i j k a b = mem_each cs (λ c m. le_trans (each_mem _ cs a c m) (each_mem _ cs b c m))

  pub subsumed_shown : (i j : ℕ) → ¬ Subsumed G cs i j → (c : ℕ) × Mem c cs × (grade_in G c j < grade_in G c i)
  subsumed_shown i j n = go cs n
    where
      go : (xs : List ℕ) → ¬ Each (λ c. grade_in G c i ≤ grade_in G c j) xs → (c : ℕ) × Mem c xs × (grade_in G c j < grade_in G c i)
      go [] m = absurd (m tt)
      go (x ∷ xs) m =
          dite (dec_le (grade_in G x i) (grade_in G x j))
          (λ h. let w = go xs (λ r. m (h, r)) in (w.0, inr w.1, w.2))
          (λ h. (x, inl refl, omega arith))

-- ---- every finite interpretation

module _ (B : Book) where
  abbrev G : Grading
  G = B.grading

  -- left is never greater than right in any finite interpretation that meets rules and pairs, if and only if it is so in the survivors' types
  pub implied_by_survivors : Valid B → (i j : ℕ) → i < length G.terms → j < length G.terms
      → Subsumed G (survivors_of B) i j ↔ ((I : Interpretation) → RuleModel B I → MeetsRule G I (record { left = i; right = j }))
  implied_by_survivors v i j h l = (
    λ s I m e k.
        let t = complete B v I m e k in
        let has = type_of_has G v.well_formed I m.on_chain e k in
        rw (has i h, has j l) (each_mem _ (survivors_of B) s (type_of G I e) t),
    λ f. mem_each (survivors_of B) (λ c m.
        let u = ((survives_realised B v c).0 m).1 in
        rw (← u.4 i h, ← u.4 j l) (f u.0 u.1 u.2 u.3)),
  )

  -- so a rule of the book is implied
  pub rule_subsumed : (q : Rule) → Mem q B.rules → Subsumed G (survivors_of B) q.left q.right
  rule_subsumed q m = mem_each (survivors_of B) (λ c s. each_mem (λ q. grade_in G c q.left ≤ grade_in G c q.right) B.rules ((survivors_sound G B.rules).fits c s).0 q m)
