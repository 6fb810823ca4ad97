-- Laws of writing out: what the bytes that are written stand for are the section's claims, each for one individual, and check 8 admits them.
-- Assumes nothing.
use mathlib.Core.Path.{◌≡◌, refl, sym, ap, ap₂, subst, ◌∙◌}
use mathlib.Core.Logic.{ite, if_pos, if_neg}
use mathlib.Core.List.{List, [], ◌∷◌, ◌++◌, map, flat_map, map-append}
use Prim.Native.Nat.{ℕ, zero, suc, ◌+◌, ◌-◌, ◌*◌, ◌<◌}
use native.Mathlib.Decide.{dec_lt}
use native.Mathlib.Omega.{arith}
use lib.ListN.{get_or}
use Rattle.chain.specs.Lists.{Each, table}
use Rattle.chain.proofs.Lists.{each_map, each_mapped, each-flat_map, each-table, table-each, table-map, mem_each, table_same}
use Rattle.encoding.specs.Bits.{bits_of}
use Rattle.encoding.proofs.Bits.{bits_mem}
use Rattle.semantics.specs.Books.{MembershipClaim}
use Rattle.semantics.proofs.Claims.{single, singles}
use Rattle.claims.specs.declared.MembershipRecord.{MembershipRecord}
use Rattle.claims.specs.Claims.{sense_of, membership_of, claim_count, membership_record, memberships_of, MembershipRight, MembershipsRight}
use Rattle.claims.specs.Sets.{claim_written, written_out}
use Rattle.claims.proofs.Claims.{members_one, members-set}

-- ---- a section as the list of its records

unfoldable records_of : List ℕ → List MembershipRecord
records_of s = table (membership_record s) (claim_count s)

abbrev record_of : (x t k g : ℕ) → MembershipRecord
record_of x t k g = record { named = x; term = t; sense = k; grade = g }

module _ (x t k g : ℕ) (rest : List ℕ) where
  records_cons : records_of (x ∷ t ∷ k ∷ g ∷ rest) ≡ record_of x t k g ∷ records_of rest
  unfolding records_of table
  records_cons =
      ap (table (membership_record whole)) count
      ∙ ap (λ (qs : List MembershipRecord). record_of x t k g ∷ qs) (table_same _ _ (claim_count rest) (λ i _. shifted i))
    where
      whole : List ℕ
      whole = x ∷ t ∷ k ∷ g ∷ rest

      count : claim_count whole ≡ suc (claim_count rest)
      count = omega arith

      at : (i j : ℕ) → get_or whole (4 * suc i + j) 0 ≡ get_or rest (4 * i + j) 0
      at i j = ap (λ (z : ℕ). get_or whole z 0) {x = 4 * suc i + j} {y = suc (suc (suc (suc (4 * i + j))))} (omega arith)

      first : (i : ℕ) → get_or whole (4 * suc i) 0 ≡ get_or rest (4 * i) 0
      first i = ap (λ (z : ℕ). get_or whole z 0) {x = 4 * suc i} {y = suc (suc (suc (suc (4 * i))))} (omega arith)

      shifted : (i : ℕ) → membership_record whole (suc i) ≡ membership_record rest i
      shifted i = cc (first i, at i 1, at i 2, at i 3)

-- single claims of one term, sense and grade, and then others
records_singles : (t k g : ℕ) (js rest : List ℕ) → records_of (flat_map (λ j. j ∷ t ∷ k ∷ g ∷ []) js ++ rest) ≡ map (λ j. record_of j t k g) js ++ records_of rest
unfolding flat_map
records_singles t k g [] rest = refl
records_singles t k g (j ∷ js) rest =
    records_cons j t k g (flat_map (λ j. j ∷ t ∷ k ∷ g ∷ []) js ++ rest)
    ∙ ap (λ (qs : List MembershipRecord). record_of j t k g ∷ qs) (records_singles t k g js rest)

-- ---- the records that are written

abbrev record_written : MembershipRecord → List MembershipRecord
record_written q =
    ite {C = List MembershipRecord} (dec_lt q.sense 2) (q ∷ []) (map (λ j. record_of j q.term (q.sense - 2) q.grade) (bits_of q.named))

claim-written : (x t k g : ℕ) (rest : List ℕ) → records_of (claim_written x t k g ++ rest) ≡ record_written (record_of x t k g) ++ records_of rest
claim-written x t k g rest = go (dec_lt k 2)
  where
    go : Dec (k < 2) → records_of (claim_written x t k g ++ rest) ≡ record_written (record_of x t k g) ++ records_of rest
    go (yes l) = rw (if_pos (dec_lt k 2) l, if_pos (dec_lt k 2) l) (records_cons x t k g rest)
    go (no n) = rw (if_neg (dec_lt k 2) n, if_neg (dec_lt k 2) n) (records_singles t (k - 2) g (bits_of x) rest)

records_written : (s : List ℕ) → records_of (written_out s) ≡ flat_map record_written (records_of s)
unfolding written_out flat_map records_of table
records_written (x ∷ t ∷ k ∷ g ∷ rest) =
    claim-written x t k g (written_out rest)
    ∙ ap (λ (qs : List MembershipRecord). record_written (record_of x t k g) ++ qs) (records_written rest)
    ∙ sym (ap (flat_map record_written) (records_cons x t k g rest))
records_written [] = refl
records_written (x ∷ []) = refl
records_written (x ∷ t ∷ []) = refl
records_written (x ∷ t ∷ k ∷ []) = refl

-- ---- check 8 admits them

module _ (N n : ℕ) where
  record_right : (q : MembershipRecord) → MembershipRight N n q → Each (MembershipRight N n) (record_written q)
  record_right q h = go (dec_lt q.sense 2)
    where
      one : ℕ → MembershipRecord
      one j = record_of j q.term (q.sense - 2) q.grade

      go : Dec (q.sense < 2) → Each (MembershipRight N n) (record_written q)
      go (yes l) = rw (if_pos (dec_lt q.sense 2) l (q ∷ []) (map one (bits_of q.named))) (h, tt)
      go (no m) =
          rw (if_neg (dec_lt q.sense 2) m (q ∷ []) (map one (bits_of q.named)))
          ((each_mapped (MembershipRight N n) one (λ j. MembershipRight N n (one j)) (λ _. (λ z. z, λ z. z)) (bits_of q.named)).1
          (mem_each (bits_of q.named) (λ j b. ((λ _. ((bits_mem q.named j).0 b).0), (h.1.0, (omega (arith, h.1.1.0), h.1.1.1))))))

  pub written-right : (s : List ℕ) → MembershipsRight s N n → MembershipsRight (written_out s) N n
  unfolding records_of
  written-right s h = table-each (MembershipRight N n) (membership_record (written_out s)) (claim_count (written_out s))
      (subst (Each (MembershipRight N n)) (sym (records_written s))
      (each-flat_map (MembershipRight N n) record_written (records_of s) (each_map {P = MembershipRight N n} record_right (records_of s)
      (each-table (MembershipRight N n) (membership_record s) (claim_count s) h))))

-- ---- they are single claims

record_single : (q : MembershipRecord) → q.sense < 4 → Each (λ p. p.sense < 2) (record_written q)
record_single q h = go (dec_lt q.sense 2)
  where
    one : ℕ → MembershipRecord
    one j = record_of j q.term (q.sense - 2) q.grade

    go : Dec (q.sense < 2) → Each (λ p. p.sense < 2) (record_written q)
    go (yes l) = rw (if_pos (dec_lt q.sense 2) l (q ∷ []) (map one (bits_of q.named))) (l, tt)
    go (no m) =
        rw (if_neg (dec_lt q.sense 2) m (q ∷ []) (map one (bits_of q.named)))
        ((each_mapped (λ (p : MembershipRecord). p.sense < 2) one (λ _. q.sense - 2 < 2) (λ _. (λ z. z, λ z. z)) (bits_of q.named)).1
        (mem_each (bits_of q.named) (λ j b. omega arith)))

pub written-single : (N n : ℕ) (s : List ℕ) → MembershipsRight s N n → (i : ℕ) → i < claim_count (written_out s) → (membership_record (written_out s) i).sense < 2
unfolding records_of
written-single N n s h = table-each (λ (q : MembershipRecord). q.sense < 2) (membership_record (written_out s)) (claim_count (written_out s))
    (subst (Each (λ q. q.sense < 2)) (sym (records_written s))
    (each-flat_map (λ (q : MembershipRecord). q.sense < 2) record_written (records_of s) (each_map {P = λ q. q.sense < 4} record_single (records_of s)
    (each-table (λ (q : MembershipRecord). q.sense < 4) (membership_record s) (claim_count s) (λ i l. (h i l).1.1.0)))))

-- ---- what they stand for

-- a sense for a set, and the same for one
sense-single : (k : ℕ) → ¬ (k < 2) → k < 4 → sense_of (k - 2) ≡ sense_of k
sense-single zero n h = absurd (n (omega arith))
sense-single (suc zero) n h = absurd (n (omega arith))
sense-single (suc (suc zero)) n h = refl
sense-single (suc (suc (suc zero))) n h = refl
sense-single (suc (suc (suc (suc k)))) n h = absurd (omega arith)

record_claims : (q : MembershipRecord) → q.sense < 4 → map membership_of (record_written q) ≡ map (single (membership_of q)) (membership_of q).members
record_claims q h = go (dec_lt q.sense 2)
  where
    one : ℕ → MembershipRecord
    one j = record_of j q.term (q.sense - 2) q.grade

    -- for one member
    alike : ¬ (q.sense < 2) → (j : ℕ) → membership_of (one j) ≡ single (membership_of q) j
    alike n j = cc (members_one (q.sense - 2) j (omega arith), sense-single q.sense n h)

    each : ¬ (q.sense < 2) → (js : List ℕ) → map membership_of (map one js) ≡ map (single (membership_of q)) js
    each n [] = refl
    each n (j ∷ js) = ap₂ (λ (p : MembershipClaim) (ps : List MembershipClaim). p ∷ ps) (alike n j) (each n js)

    go : Dec (q.sense < 2) → map membership_of (record_written q) ≡ map (single (membership_of q)) (membership_of q).members
    go (yes l) =
        rw (if_pos (dec_lt q.sense 2) l (q ∷ []) (map one (bits_of q.named)), members_one q.sense q.named l) refl
    go (no n) =
        rw (if_neg (dec_lt q.sense 2) n (q ∷ []) (map one (bits_of q.named)), members-set q.sense q.named n) (each n (bits_of q.named))

records_claims : (s : List ℕ) → memberships_of s ≡ map membership_of (records_of s)
unfolding memberships_of records_of
records_claims s = table-map membership_of (membership_record s) (claim_count s)

pub written-singles : (N n : ℕ) (s : List ℕ) → MembershipsRight s N n → memberships_of (written_out s) ≡ singles (memberships_of s)
unfolding singles flat_map records_of
written-singles N n s h =
    records_claims (written_out s) ∙ ap (map membership_of) (records_written s)
    ∙ go (records_of s) (each-table (λ q. q.sense < 4) (membership_record s) (claim_count s) (λ i l. (h i l).1.1.0))
    ∙ sym (ap singles (records_claims s))
  where
    go : (qs : List MembershipRecord) → Each (λ q. q.sense < 4) qs → map membership_of (flat_map record_written qs) ≡ singles (map membership_of qs)
    go [] e = refl
    go (q ∷ qs) e = map-append membership_of (record_written q) (flat_map record_written qs) ∙ ap₂ ◌++◌ (record_claims q e.0) (go qs e.1)
