-- Laws of writing: an accepted book's bytes are those written for its reading, so no other accepted book is read as it is.
-- Assumes nothing.
use mathlib.Core.Path.{◌≡◌, refl, sym, ap, ◌∙◌}
use mathlib.Core.Logic.{if_pos, if_neg}
use mathlib.Core.List.{List, [], ◌∷◌, flat_map, zip_with}
use Prim.Native.Nat.{ℕ, ◌+◌, ◌*◌, ◌≤◌, ◌<◌}
use native.Mathlib.Decide.{ℕ_discrete, dec_lt}
use native.Mathlib.Omega.{arith}
use lib.ListN.{length, take, drop}
use lib.Seq.{take_all, take-add, drop-drop}
use Rattle.chain.specs.Lists.{table}
use Rattle.chain.proofs.Lists.{zip_tables}
use Rattle.chain.proofs.Blocks.{take-table, blocks_front}
use Rattle.encoding.specs.Words.{Bytes, word_at, word_bytes}
use Rattle.encoding.proofs.Words.{word_written}
use Rattle.encoding.proofs.Bits.{byte_of_bits}
use Rattle.encoding.proofs.Stretches.{bytes-stretch, stretch-length, stretch-next}
use Rattle.sections.specs.Terms.{term_of, Described}
use Rattle.claims.specs.Claims.{members_of, claim_count, membership_record, membership_at, memberships_of}
use Rattle.sections.proofs.Terms.{by_kind, described-kind, terms-bytes}
use Rattle.claims.proofs.Rules.{rules-bytes}
use Rattle.claims.proofs.Claims.{members_one, members-set, memberships-bytes, links-bytes}
use Rattle.claims.proofs.Pairs.{pairs-bytes}
use Rattle.heads.specs.Heads.{edition, steps, count_at, count_of_pairs, head}
use Rattle.layout.specs.Layout.{sections_of, term_bytes, rule_bytes, membership_bytes, link_bytes, pair_bytes}
use Rattle.heads.proofs.Editions.{edition_second, edition_other, head_second, head_other}
use Rattle.book.specs.Reading.{book_of}
use Rattle.book.specs.Opening.{Accepts, Right}
use Rattle.book_bytes.specs.Writing.{term_bytes_of, rule_bytes_of, first_byte, membership_bytes_of, senses_in, link_bytes_of, pair_bytes_of, entries_of, bytes_of}
use Rattle.book.proofs.Opening.{accepts_right}

-- ---- the bodies: each record is written as its bytes

term-written : (i kind a b : ℕ) → Described i kind a b → term_bytes_of (term_of kind a b) ≡ kind ∷ a ∷ b ∷ []
term-written i kind a b d =
    by_kind (λ k t. Described i k a b → term_bytes_of t ≡ k ∷ a ∷ b ∷ []) a b
    (λ d. ends (omega (arith, d.1))) (λ d. ends (omega (arith, d.1))) (λ _. refl) (λ _. refl) (λ _. refl) (λ _. refl)
    (λ d. both 6 (omega (arith, d.0)) (omega (arith, d.1))) (λ d. both 7 (omega (arith, d.0)) (omega (arith, d.1)))
    (λ k h d. absurd (omega (arith, described-kind i k a b d))) kind d
  where
    ends : {k x : ℕ} → b ≡ 0 → k ∷ x ∷ 0 ∷ [] ≡ k ∷ x ∷ b ∷ []
    ends e = rw e

    both : (k : ℕ) → a ≡ 0 → b ≡ 0 → k ∷ 0 ∷ 0 ∷ [] ≡ k ∷ a ∷ b ∷ []
    both k e f = rw (e, f)

first-written : (k x : ℕ) → x < 256 → first_byte k (members_of k x) ≡ x
first-written k x h = go (dec_lt k 2)
  where
    go : Dec (k < 2) → first_byte k (members_of k x) ≡ x
    go (yes l) = rw (members_one k x l) (if_pos (dec_lt k 2) l _ _)
    go (no n) = rw (members-set k x n) (if_neg (dec_lt k 2) n _ _ ∙ byte_of_bits x h)

memberships-written : (s : List ℕ) (n : ℕ) → Bytes s → length s ≡ 4 * n
    → (flat_map (λ r. r) (zip_with membership_bytes_of (senses_in s) (memberships_of s)) ≡ s) × (length (memberships_of s) ≡ n)
unfolding memberships_of
memberships-written s n bytes e =
    let w = memberships-bytes s (λ i. membership_bytes_of (membership_record s i).sense (membership_at s i)) n e
    (λ i h. rw (first-written (membership_record s i).sense (membership_record s i).named (bytes (4 * i))) refl) in
    (ap (flat_map (λ r. r)) (zip_tables membership_bytes_of (λ i. (membership_record s i).sense) (membership_at s) (claim_count s)) ∙ w.0, w.1)

-- ---- the contents

module _ (b : List ℕ) (bytes : Bytes b) where
  -- byte 0, byte 1, and n two-byte numbers
  contents_front : (n : ℕ) → 2 + 2 * n ≤ length b
      → edition b ∷ steps b ∷ flat_map word_bytes (table (λ k. word_at b (2 + 2 * k)) n) ≡ take (2 + 2 * n) b
  unfolding table
  contents_front n h =
      let words : flat_map word_bytes (table (λ k. word_at b (2 + 2 * k)) n) ≡ take (2 * n) (drop 2 b) =
      blocks_front word_bytes 2 n (λ k. word_at b (2 + 2 * k)) (drop 2 b) (λ i l. word_written b bytes (2 + 2 * i) (omega arith) ∙ rw drop-drop) in
      rw (words, take-add 2 (2 * n) b, take-table 0 b 0 2 (omega arith))

  -- the entries, by the counts
  abbrev entries : List ℕ
  entries = entries_of (edition b) (count_at b 0) (count_at b 1) (count_at b 2) (count_at b 3) (count_of_pairs b)

  contents_written : Right b (sections_of b) → edition b ∷ steps b ∷ flat_map word_bytes entries ≡ take (head (edition b)) b
  unfolding sections_of table
  contents_written ok = go (ℕ_discrete (edition b) 2)
    where
      -- what a fifth entry says
      fifth : List ℕ
      fifth = (sections_of b).pairs ∷ count_of_pairs b ∷ []

      go : Dec (edition b ≡ 2) → edition b ∷ steps b ∷ flat_map word_bytes entries ≡ take (head (edition b)) b
      go (yes e) =
          let long = ok.length_right.0 in
          let h = head_second (edition b) e in
          let o = ok.laid_out in
          let same : entries ≡ table (λ k. word_at b (2 + 2 * k)) 10 =
          cc (edition_second (edition b) fifth [] e, edition_second (edition b) (count_at b 4) 0 e, o.1.1.1.1.0 e) in
          rw (same, h) (contents_front 10 (omega arith))
      go (no n) =
          let long = ok.length_right.0 in
          let h = head_other (edition b) n in
          let o = ok.laid_out in
          let same : entries ≡ table (λ k. word_at b (2 + 2 * k)) 8 = cc (edition_other (edition b) fifth [] n) in
          rw (same, h) (contents_front 8 (omega arith))

-- ---- the book

-- an accepted book is written as it was read
pub bytes_of-book_of : (b : List ℕ) → Bytes b → Accepts b → bytes_of (edition b) (senses_in (membership_bytes b (sections_of b))) (book_of b) ≡ b
unfolding bytes_of book_of sections_of table
bytes_of-book_of b bytes accepts =
    let ok = accepts_right b accepts in
    let s = sections_of b in
    let t : ℕ = 3 * count_at b 0 in
    let r : ℕ = 2 * count_at b 1 in
    let m : ℕ = 4 * count_at b 2 in
    let l : ℕ = 4 * count_at b 3 in
    let p : ℕ = 2 * count_of_pairs b in
    let terms = terms-bytes (term_bytes b s) term_bytes_of (count_at b 0) (stretch-length b s.terms t (omega arith))
    (λ i h. term-written i _ _ _ (ok.terms_right i h)) in
    let rules = rules-bytes (rule_bytes b s) rule_bytes_of (count_at b 1) (stretch-length b s.rules r (omega arith)) (λ i h. refl) in
    let memberships = memberships-written (membership_bytes b s) (count_at b 2) (bytes-stretch b s.memberships s.links bytes)
    (stretch-length b s.memberships m (omega arith)) in
    let links = links-bytes (link_bytes b s) link_bytes_of (count_at b 3) (stretch-length b s.links l (omega arith)) (λ i h. refl) in
    let pairs = pairs-bytes (pair_bytes b s) pair_bytes_of (count_of_pairs b) (stretch-length b s.pairs p (omega arith)) (λ i h. refl) in
    let contents = contents_written b bytes ok in
    let whole : take s.end b ≡ b = take_all s.end b (omega arith) in
    cc (
      stretch-next b s.terms t,
      stretch-next b s.rules r,
      stretch-next b s.memberships m,
      stretch-next b s.links l,
      stretch-next b s.pairs p,
    )

-- so the reading, with the edition and the senses' bytes, determines the bytes
pub reading_inj : (b c : List ℕ) → Bytes b → Bytes c → Accepts b → Accepts c → edition b ≡ edition c
    → senses_in (membership_bytes b (sections_of b)) ≡ senses_in (membership_bytes c (sections_of c)) → book_of b ≡ book_of c → b ≡ c
reading_inj b c p q h k e s f = sym (bytes_of-book_of b p h) ∙ (cc) ∙ bytes_of-book_of c q k
