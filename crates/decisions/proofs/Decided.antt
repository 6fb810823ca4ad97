-- Laws of what deciding says and sets, of an abstract book, and how its bytes are written.
-- Assumes nothing.
use mathlib.Core.Path.{◌≡◌, refl, sym, ap, ap₂, ◌∙◌}
use mathlib.Core.Bool.{Bool, true, false}
use mathlib.Core.Logic.{if_pos, if_neg}
use mathlib.Core.Option.{Option, none, some}
use mathlib.Core.List.{List, [], ◌∷◌, ◌++◌, flat_map}
use Prim.Native.Nat.{ℕ, ◌+◌, ◌*◌, ◌/◌, ◌%◌, ◌≤◌, ◌<◌}
use native.Mathlib.Decide.{ℕ_discrete}
use native.Mathlib.Numerals.{add-one}
use native.Mathlib.Omega.{arith}
use lib.ListN.{length, get_or, take, drop}
use lib.Seq.{take-suc, take-length, length-take-le, take_at, drop_at, drop-drop, sets, sets-eq}
use Rattle.chain.proofs.Lists.{at_mem}
use Rattle.encoding.specs.Words.{word_bytes}
use Rattle.semantics.specs.Books.{Book, individuals}
use Rattle.elimination.specs.Survivors.{survivors_of}
use Rattle.placement.specs.Outcome.{HoldsAt, placement, outcome_of, outcome}
use Rattle.placement.specs.Dictionary.{Finds}
use Rattle.placement.proofs.Outcome.{placement_finds}
use Rattle.placer.specs.Walk.{placed}
use Rattle.placer.proofs.Walk.{placed_true, placed_false}
use Rattle.std.specs.Prelude.{None, Some}
use Rattle.decisions.specs.Decided.{outcome_number, outcome_numbered, placed_in}
use Rattle.decisions.specs.Either.{outcome_if, placed_if}
use Rattle.decisions.specs.declared.Outcome.{Outcome}
use Rattle.decisions.specs.declared.Outcome.TheVariants.{HoldsTogether, ClaimsFail, NoModel}

-- ---- the outcome

-- an outcome is the one with its number
pub outcome_numbered-is : (o : Outcome) → outcome_numbered (outcome_number o) ≡ o
unfolding ℕ_discrete
outcome_numbered-is HoldsTogether = refl
outcome_numbered-is ClaimsFail = refl
outcome_numbered-is NoModel = refl

pub outcome-with : (o : Outcome) (n : ℕ) → outcome_number o ≡ n → o ≡ outcome_numbered n
outcome-with o n e = sym (outcome_numbered-is o) ∙ ap outcome_numbered e

module _ (B : Book) where
  -- the outcome of a book with its number
  pub numbered-outcome : outcome_number (outcome_numbered (outcome B)) ≡ outcome B
  unfolding outcome ℕ_discrete
  numbered-outcome = go (survivors_of B) (placement B)
    where
      go : (xs : List ℕ) (o : Option (List ℕ)) → outcome_number (outcome_numbered (outcome_of B xs o)) ≡ outcome_of B xs o
      go [] o = refl
      go (x ∷ xs) none = refl
      go (x ∷ xs) (some p) = refl

  pub outcome_said : (o : Outcome) → outcome_numbered (outcome B) ≡ o → outcome B ≡ outcome_number o
  outcome_said o e = sym numbered-outcome ∙ ap outcome_number e

  pub outcome_3 : length (survivors_of B) ≡ 0 → 3 ≡ outcome B
  unfolding outcome
  outcome_3 = go (survivors_of B)
    where
      go : (xs : List ℕ) → length xs ≡ 0 → 3 ≡ outcome_of B xs (placement B)
      go [] h = refl
      go (x ∷ xs) h = absurd (omega arith)

  -- nor does a placement change a byte
  pub outcome_3_kept : length (survivors_of B) ≡ 0 → (buffer : List ℕ) → buffer ≡ placed_in (placement B) buffer
  unfolding flat_map
  outcome_3_kept h buffer = go (placement B) (placement_finds B)
    where
      go : (o : Option (List ℕ)) → Finds (survivors_of B) (individuals B) (HoldsAt B) o → buffer ≡ placed_in o buffer
      go none f = refl
      go (some []) f = refl
      go (some (x ∷ xs)) f = absurd (omega (arith, (at_mem (survivors_of B) 0 x f.drawn.1.0).1))

  -- where some survive, what the search answers is the outcome, the placement and its bytes
  module _ (some_left : 0 < length (survivors_of B)) (r : Bool) (q : List ℕ) (found : placed r q ≡ placement B) where
    pub outcome_2 : r ≡ false → (2 ≡ outcome B) × ((buffer : List ℕ) → buffer ≡ placed_in (placement B) buffer)
    unfolding outcome
    outcome_2 e = (go (survivors_of B) some_left, λ buffer. ap (λ (o : Option (List ℕ)). placed_in o buffer) none_is)
      where
        none_is : none ≡ placement B
        none_is = sym (placed_false r q e) ∙ found

        go : (xs : List ℕ) → 0 < length xs → 2 ≡ outcome_of B xs (placement B)
        go [] h = absurd (omega arith)
        go (x ∷ xs) h = ap (outcome_of B (x ∷ xs)) none_is

    pub outcome_1 : r ≡ true → (1 ≡ outcome B) × (placement B ≡ some q)
    unfolding outcome
    outcome_1 e = (go (survivors_of B) some_left, sym some_is)
      where
        some_is : some q ≡ placement B
        some_is = sym (placed_true r q e) ∙ found

        go : (xs : List ℕ) → 0 < length xs → 1 ≡ outcome_of B xs (placement B)
        go [] h = absurd (omega arith)
        go (x ∷ xs) h = ap (outcome_of B (x ∷ xs)) some_is

  -- ---- deciding, or marking alone

  pub marks-alone : (d : Bool) → d ≡ false → (None ≡ outcome_if d B) × ((buffer : List ℕ) → buffer ≡ placed_if d B buffer)
  marks-alone d e = rw e (refl, λ buffer. refl)

  pub decides : (d : Bool) → d ≡ true
      → (Some (outcome_numbered (outcome B)) ≡ outcome_if d B) × ((buffer : List ℕ) → placed_in (placement B) buffer ≡ placed_if d B buffer)
  decides d e = rw e (refl, λ buffer. refl)

-- ---- the placement's bytes

pub length_words : (xs : List ℕ) → length (flat_map word_bytes xs) ≡ 2 * length xs
unfolding flat_map
length_words [] = refl
length_words (x ∷ xs) = omega (arith, length_words xs)

words_snoc : (xs : List ℕ) (v : ℕ) → flat_map word_bytes (xs ++ (v ∷ [])) ≡ flat_map word_bytes xs ++ word_bytes v
unfolding flat_map
words_snoc [] v = refl
words_snoc (x ∷ xs) v = ap (λ (l : List ℕ). x / 256 ∷ x % 256 ∷ l) (words_snoc xs v)

module _ (seats q : List ℕ) where
  pub placement_start : q ≡ flat_map word_bytes (take 0 seats) ++ drop (2 * 0) q
  unfolding flat_map
  placement_start = refl

  pub placement_turn : (i : ℕ) (l : List ℕ) → i < length seats → 2 * length seats ≤ length q → length l ≡ length q → l ≡ flat_map word_bytes (take i seats) ++ drop (2 * i) q
      → sets l (2 * i) (word_bytes (get_or seats i 0)) ≡ flat_map word_bytes (take (i + 1) seats) ++ drop (2 * (i + 1)) q
  placement_turn i l h k same e =
      sets-eq (word_bytes v) l (2 * i) (omega arith)
      ∙ ap₂ {C = List ℕ} ◌++◌ (ap (λ (xs : List ℕ). xs ++ word_bytes v) before ∙ sym (words_snoc (take i seats) v) ∙ ap (flat_map word_bytes) (sym (rw (add-one i) (take-suc seats i 0 h)))) after
    where
      v : ℕ
      v = get_or seats i 0

      done : length (flat_map word_bytes (take i seats)) ≡ 2 * i
      done = length_words (take i seats) ∙ ap (λ (n : ℕ). 2 * n) (length-take-le i seats (omega arith))

      before : take (2 * i) l ≡ flat_map word_bytes (take i seats)
      before = ap (take (2 * i)) e ∙ take_at (flat_map word_bytes (take i seats)) (drop (2 * i) q) (2 * i) done

      after : drop (2 * i + 2) l ≡ drop (2 * (i + 1)) q
      after =
          let two : 2 * i + 2 ≡ 2 * (i + 1) = omega arith in
          sym (drop-drop 2 (2 * i) l) ∙ ap (drop 2) (ap (drop (2 * i)) e ∙ drop_at (flat_map word_bytes (take i seats)) (drop (2 * i) q) (2 * i) done)
          ∙ drop-drop 2 (2 * i) q ∙ ap (λ (n : ℕ). drop n q) two

  pub placement-end : (i : ℕ) (l : List ℕ) → i ≡ length seats → l ≡ flat_map word_bytes (take i seats) ++ drop (2 * i) q
      → l ≡ flat_map word_bytes seats ++ drop (2 * length seats) q
  placement-end i l h e = e ∙ rw (h, take-length)
