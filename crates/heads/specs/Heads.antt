-- The head of a book. Document 01, "The book", and the checks 1 to 4; document 02, P1, for edition 2.
-- Assumes nothing.
use Rattle.std.specs.Prelude.{◌≡◌, ◌⊎◌, List, ℕ, ◌+◌, ◌*◌, ◌≤◌, length, get_or}
use Rattle.std.proofs.Math.Logic.{ite}
use Rattle.std.proofs.Math.Decide.{ℕ_discrete, dec_le}
use Rattle.chain.specs.Decisions.{dec_and, dec_or}
use Rattle.encoding.specs.Words.{word_at}

-- ---- what the edition says

-- x in edition 2, and y otherwise
unfoldable pub by_edition : {A : Type 0} → (edition : ℕ) (x y : A) → A
unfolding ℕ_discrete
by_edition {A} e x y = ite {C = A} (ℕ_discrete e 2) x y

-- "The bodies follow from byte 18"; "head 22 bytes"
abbrev pub head : (edition : ℕ) → ℕ
head e = by_edition e 22 18

-- "18 to 850 bytes"; "22 to 982 when byte 0 is 2"
abbrev pub longest : (edition : ℕ) → ℕ
longest e = by_edition e 982 850

-- ---- a book's head

module _ (b : List ℕ) where
  -- "byte 0 is the edition, 1; byte 1 is N"; "Edition 2 books"
  abbrev pub edition : ℕ
  edition = get_or b 0 0

  abbrev pub steps : ℕ
  steps = get_or b 1 0

  -- "then four entries of offset and count (two bytes each)": terms 0, rules 1, membership claims 2, link claims 3; "Edition 2 books have a fifth
  -- contents entry": pairs of roles 4
  abbrev pub offset_at : ℕ → ℕ
  offset_at k = word_at b (4 * k + 2)

  abbrev pub count_at : ℕ → ℕ
  count_at k = word_at b (4 * k + 4)

  -- the head is within the bytes; it has 18 of them at least
  abbrev pub Headed : Type 0
  Headed = (18 ≤ length b) × (head edition ≤ length b)

  -- how many pairs there are: only a fifth entry counts any
  abbrev pub count_of_pairs : ℕ
  count_of_pairs = by_edition edition (count_at 4) 0

  -- ---- the checks

  -- "Is it 18 to 850 bytes long?"; "Check 1 reads 22 to 982 when byte 0 is 2"
  abbrev pub LengthRight : Type 0
  LengthRight = (head edition ≤ length b) × (length b ≤ longest edition)

  unfoldable pub length_right? : Dec LengthRight
  unfolding dec_and dec_le
  length_right? = dec_and (dec_le (head edition) (length b)) (dec_le (length b) (longest edition))

  -- "Is byte 0 equal to 1?"; "check 2 admits 2"
  abbrev pub EditionRight : Type 0
  EditionRight = (edition ≡ 1) ⊎ (edition ≡ 2)

  unfoldable pub edition_right? : Dec EditionRight
  unfolding dec_or ℕ_discrete
  edition_right? = dec_or (ℕ_discrete edition 1) (ℕ_discrete edition 2)

  -- "Is N 1 to 8?"
  abbrev pub StepsRight : Type 0
  StepsRight = (1 ≤ steps) × (steps ≤ 8)

  unfoldable pub steps_right? : Dec StepsRight
  unfolding dec_and dec_le
  steps_right? = dec_and (dec_le 1 steps) (dec_le steps 8)

  -- "Is each count at most 64?"; "at most 64 pairs"
  abbrev pub CountsRight : Type 0
  CountsRight = (count_at 0 ≤ 64) × ((count_at 1 ≤ 64) × ((count_at 2 ≤ 64) × ((count_at 3 ≤ 64) × (count_of_pairs ≤ 64))))

  unfoldable pub counts_right? : Dec CountsRight
  unfolding dec_and dec_le
  counts_right? =
      dec_and (dec_le (count_at 0) 64)
      (dec_and (dec_le (count_at 1) 64) (dec_and (dec_le (count_at 2) 64) (dec_and (dec_le (count_at 3) 64) (dec_le count_of_pairs 64))))
