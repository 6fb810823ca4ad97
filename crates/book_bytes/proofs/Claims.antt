-- The membership claims of an accepted book, by its bytes.
-- Assumes nothing.
use mathlib.Core.Path.{◌≡◌, sym, ap, subst, ◌∙◌}
use mathlib.Core.Logic.{◌↔◌, inl, ⊎_elim}
use mathlib.Core.List.{List, []}
use Prim.Native.Nat.{ℕ, suc, ◌+◌, ◌-◌, ◌*◌, ◌≤◌, ◌<◌}
use native.Mathlib.Omega.{arith}
use lib.ListN.{length, get_or, drop}
use lib.Seq.{get_or-take, get_or-drop}
use Rattle.chain.specs.Lists.{Each, highest}
use Rattle.chain.proofs.Lists.{each_mem, mem_each, length-table, get_or-table}
use Rattle.encoding.specs.Bits.{Bit, bits_of}
use Rattle.encoding.proofs.Bits.{no_bits}
use Rattle.encoding.proofs.Stretches.{length-stretch}
use Rattle.semantics.specs.Interpretations.{Grading, Interpretation, grade_at}
use Rattle.semantics.specs.Books.{MembershipClaim, Claimed, Mentions, membership_individuals, MemberMeets, MeetsMembership}
use Rattle.claims.specs.Claims.{sense_of, members_of, membership_of, claim_count, membership_at, membership_record, memberships_of, MembershipRight}
use Rattle.claims.specs.declared.MembershipRecord.{MembershipRecord}
use Rattle.claims.proofs.Claims.{members_one, members-set, set_mentions}
use Rattle.heads.specs.Heads.{steps, offset_at, count_at}
use Rattle.layout.specs.Layout.{sections_of, membership_bytes, terms_in}
use Rattle.book.specs.Reading.{book_of}
use Rattle.book.specs.Opening.{Accepts}
use Rattle.book.proofs.Opening.{accepts_right, right-ordered}

module _ (b : List ℕ) (ok : Accepts b) where
  -- as many as the third entry counts
  section_length : length (membership_bytes b (sections_of b)) ≡ 4 * count_at b 2
  unfolding sections_of
  section_length =
      let s = sections_of b in
      let o = right-ordered b s (accepts_right b ok) in
      length-stretch b s.memberships s.links (omega arith) ∙ omega arith

  pub count_is : claim_count (membership_bytes b (sections_of b)) ≡ count_at b 2
  count_is = omega (arith, section_length)

  pub claims_counted : length (book_of b).memberships ≡ count_at b 2
  unfolding book_of memberships_of
  claims_counted = length-table (membership_at (membership_bytes b (sections_of b))) (claim_count (membership_bytes b (sections_of b))) ∙ count_is

  -- from where it names
  byte_at : (j : ℕ) → j < 4 * count_at b 2 → get_or (membership_bytes b (sections_of b)) j 0 ≡ get_or b (offset_at b 2 + j) 0
  unfolding sections_of
  byte_at j h =
      let s = sections_of b in
      let at : offset_at b 2 ≡ s.memberships = (accepts_right b ok).laid_out.1.1.0 in
      get_or-take (s.links - s.memberships) (drop s.memberships b) j 0 (omega arith)
      ∙ get_or-drop s.memberships b j 0 ∙ ap (λ (z : ℕ). get_or b (z + j) 0) (sym at)

  -- the four bytes of claim i
  abbrev pub bytes_of_claim : (i : ℕ) → MembershipRecord
  bytes_of_claim i = record {
    named = get_or b (offset_at b 2 + 4 * i) 0;
    term = get_or b (offset_at b 2 + (4 * i + 1)) 0;
    sense = get_or b (offset_at b 2 + (4 * i + 2)) 0;
    grade = get_or b (offset_at b 2 + (4 * i + 3)) 0;
  }

  pub record_is : (i : ℕ) → i < count_at b 2 → membership_record (membership_bytes b (sections_of b)) i ≡ bytes_of_claim i
  record_is i h = cc (byte_at (4 * i) (omega arith), byte_at (4 * i + 1) (omega arith), byte_at (4 * i + 2) (omega arith), byte_at (4 * i + 3) (omega arith))

  pub claims_read : (i : ℕ) (d : MembershipClaim) → i < count_at b 2 → get_or (book_of b).memberships i d ≡ membership_of (bytes_of_claim i)
  unfolding book_of memberships_of
  claims_read i d h =
      get_or-table (membership_at (membership_bytes b (sections_of b))) (claim_count (membership_bytes b (sections_of b))) i d (omega (arith, count_is))
      ∙ ap membership_of (record_is i h)

  -- and what check 8 establishes of it
  pub claim-right : (i : ℕ) → i < count_at b 2 → MembershipRight (steps b) (terms_in (sections_of b)) (bytes_of_claim i)
  unfolding sections_of
  claim-right i h =
      subst (MembershipRight (steps b) (terms_in (sections_of b))) (record_is i h) ((accepts_right b ok).memberships_right i (omega (arith, count_is)))

  -- ---- claim i: whom it mentions, and when it is met

  module _ (i : ℕ) (h : i < count_at b 2) (d : MembershipClaim) where
    abbrev G : Grading
    G = (book_of b).grading

    abbrev claim : MembershipClaim
    claim = get_or (book_of b).memberships i d

    abbrev bytes : MembershipRecord
    bytes = bytes_of_claim i

    members-are : claim.members ≡ members_of bytes.sense bytes.named
    members-are = ap (λ (q : MembershipClaim). q.members) (claims_read i d h)

    pub one_mentioned : bytes.sense < 2 → (j : ℕ) → Mentions claim j ↔ (j ≡ bytes.named)
    one_mentioned l j = rw (members-are, members_one bytes.sense bytes.named l) (λ m. ⊎_elim (λ e. e) (λ z. absurd z) m, λ e. inl e)

    pub members_mentioned : 2 ≤ bytes.sense → (j : ℕ) → Mentions claim j ↔ ((j < 8) × Bit bytes.named j)
    members_mentioned l j = rw members-are (set_mentions bytes.sense bytes.named (λ m. omega arith) j)

    -- of the sense k
    claim_of : (k : ℕ) → bytes.sense ≡ k
        → claim ≡ record { members = members_of k bytes.named; term = bytes.term; sense = sense_of k; grade = bytes.grade }
    claim_of k e =
        claims_read i d h
        ∙ ap (λ (z : ℕ). record { members = members_of z bytes.named; term = bytes.term; sense = sense_of z; grade = bytes.grade }) e

    module _ (k : ℕ) (e : bytes.sense ≡ k) (I : Interpretation) where
      abbrev Claims : ℕ → Type 0
      Claims j = Claimed (sense_of k) bytes.grade (grade_at G I bytes.term (I.element j))

      pub met_by_one : k < 2 → MeetsMembership G I claim ↔ Claims bytes.named
      met_by_one l = rw (claim_of k e, members_one k bytes.named l) (λ m. m.0, λ m. (m, tt))

      pub met_by_each : 2 ≤ k → MeetsMembership G I claim ↔ ((j : ℕ) → j < 8 → Bit bytes.named j → Claims j)
      met_by_each l =
          let w = set_mentions k bytes.named (λ m. omega arith) in
          rw (claim_of k e) (
            λ m j f s. each_mem Claims (members_of k bytes.named) m j ((w j).1 (f, s)),
            λ f. mem_each (members_of k bytes.named) (λ j m. let u = (w j).0 m in f j u.0 u.1),
          )

    -- an empty set
    module _ (l : 2 ≤ bytes.sense) (e : bytes.named ≡ 0) where
      none-are : claim.members ≡ []
      none-are = members-are ∙ members-set bytes.sense bytes.named (λ m. omega arith) ∙ ap bits_of e ∙ no_bits

      pub empty_met : (I : Interpretation) → MeetsMembership G I claim
      empty_met I = subst (Each (MemberMeets G I claim)) (sym none-are) tt

      pub empty_uncounted : membership_individuals claim ≡ 0
      unfolding highest
      empty_uncounted = ap (highest suc) none-are
