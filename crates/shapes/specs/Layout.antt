-- The head of a sheet, the layout of its bodies, and the checks 13 to 15. Document 01, "The sheet".
-- Assumes nothing.
use Rattle.std.specs.Prelude.{◌≡◌, List, ℕ, ◌+◌, ◌*◌, ◌≤◌, ◌<◌, length, get_or}
use Rattle.std.proofs.Math.Decide.{ℕ_discrete, dec_le, dec_lt}
use Rattle.chain.specs.Decisions.{dec_and}
use Rattle.chain.specs.Search.{all?}
use Rattle.encoding.specs.Words.{word_at}
use Rattle.encoding.specs.Stretches.{stretch}
use Rattle.shapes.specs.declared.Shape.{Shape}

module _ (b : List ℕ) where
  -- "the element count n, name count A, role count R, individual count I"
  unfoldable pub shape_of : Shape
  shape_of = record { elements = get_or b 2 0; names = get_or b 3 0; roles = get_or b 4 0; individuals = get_or b 5 0 }

-- ---- "Bodies from byte 12, without gaps: names (n rows of A grades), links (for each role, n rows of n), individuals (I element numbers)":
-- ---- where each begins, and where the last ends

abbrev pub names_at : ℕ
names_at = 12

abbrev pub links_at : Shape → ℕ
links_at p = names_at + p.elements * p.names

abbrev pub individuals_at : Shape → ℕ
individuals_at p = links_at p + p.roles * (p.elements * p.elements)

abbrev pub end_at : Shape → ℕ
end_at p = individuals_at p + p.individuals

-- an index, of 64 bits, can say where the sheet ends, and so where each body begins
abbrev pub Indexable : Shape → Type 0
Indexable p = end_at p < 18446744073709551616

module _ (p : Shape) where
  -- "n of 1 to 64, and the book's A, R, I"
  abbrev pub CountsAgree : (A R I : ℕ) → Type 0
  CountsAgree A R I = (1 ≤ p.elements) × ((p.elements ≤ 64) × ((p.names ≡ A) × ((p.roles ≡ R) × (p.individuals ≡ I))))

  unfoldable pub counts_agree? : (A R I : ℕ) → Dec (CountsAgree A R I)
  unfolding dec_and dec_le ℕ_discrete
  counts_agree? A R I =
      dec_and (dec_le 1 p.elements)
      (dec_and (dec_le p.elements 64)
      (dec_and (ℕ_discrete p.names A) (dec_and (ℕ_discrete p.roles R) (ℕ_discrete p.individuals I))))

module _ (b : List ℕ) (p : Shape) where
  abbrev pub name_bytes : List ℕ
  name_bytes = stretch b names_at (links_at p)

  abbrev pub link_bytes : List ℕ
  link_bytes = stretch b (links_at p) (individuals_at p)

  abbrev pub individual_bytes : List ℕ
  individual_bytes = stretch b (individuals_at p) (end_at p)

  -- ---- the checks, for a book on N steps that has A names, R roles and I individuals

  -- "Has it 12 bytes or more, byte 0 equal to 1, the book's N, n of 1 to 64, and the book's A, R, I?"
  abbrev pub HeadRight : (N A R I : ℕ) → Type 0
  HeadRight N A R I = (12 ≤ length b) × ((get_or b 0 0 ≡ 1) × ((get_or b 1 0 ≡ N) × CountsAgree p A R I))

  unfoldable pub head_right? : (N A R I : ℕ) → Dec (HeadRight N A R I)
  unfolding dec_and dec_le ℕ_discrete counts_agree?
  head_right? N A R I =
      dec_and (dec_le 12 (length b))
      (dec_and (ℕ_discrete (get_or b 0 0) 1) (dec_and (ℕ_discrete (get_or b 1 0) N) (counts_agree? p A R I)))

  -- "Do offsets and length agree?"
  abbrev pub SheetLaidOut : Type 0
  SheetLaidOut =
      (word_at b 6 ≡ names_at) × ((word_at b 8 ≡ links_at p) × ((word_at b 10 ≡ individuals_at p) × (length b ≡ end_at p)))

  unfoldable pub sheet_laid_out? : Dec SheetLaidOut
  unfolding dec_and ℕ_discrete
  sheet_laid_out? =
      dec_and (ℕ_discrete (word_at b 6) names_at)
      (dec_and (ℕ_discrete (word_at b 8) (links_at p)) (dec_and (ℕ_discrete (word_at b 10) (individuals_at p)) (ℕ_discrete (length b) (end_at p))))

  -- "Is every grade at most N and every individual's element below n?"
  abbrev pub EntriesRight : (N : ℕ) → Type 0
  EntriesRight N =
      ((i : ℕ) → i < length name_bytes → get_or name_bytes i 0 ≤ N)
      × (((i : ℕ) → i < length link_bytes → get_or link_bytes i 0 ≤ N)
      × ((i : ℕ) → i < length individual_bytes → get_or individual_bytes i 0 < p.elements))

  unfoldable pub entries_right? : (N : ℕ) → Dec (EntriesRight N)
  unfolding dec_and all? dec_le dec_lt
  entries_right? N =
      dec_and (all? (λ i. dec_le (get_or name_bytes i 0) N) (length name_bytes))
      (dec_and (all? (λ i. dec_le (get_or link_bytes i 0) N) (length link_bytes))
      (all? (λ i. dec_lt (get_or individual_bytes i 0) p.elements) (length individual_bytes)))
