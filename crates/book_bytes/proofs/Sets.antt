-- A book with its sets written out: what it reads as, that its claims are single, and that no later check says no where it is laid out.
-- Assumes nothing.
use mathlib.Core.Path.{◌≡◌, refl, sym, ap, subst, ◌∙◌}
use mathlib.Core.List.{List}
use Prim.Native.Nat.{ℕ, ◌+◌, ◌*◌, ◌/◌, ◌<◌}
use native.Mathlib.Omega.{arith}
use lib.ListN.{get_or}
use Rattle.encoding.proofs.Stretches.{length-stretch}
use Rattle.semantics.proofs.Claims.{written}
use Rattle.claims.specs.Pairs.{PairsRight}
use Rattle.claims.specs.Claims.{claim_count, membership_record, memberships_of, MembershipsRight}
use Rattle.claims.specs.Sets.{written_out}
use Rattle.claims.specs.declared.MembershipRecord.{MembershipRecord}
use Rattle.claims.proofs.Sets.{written-right, written-single, written-singles}
use Rattle.sections.specs.Terms.{term_count, TermsRight}
use Rattle.heads.specs.Heads.{steps, offset_at, count_at, LengthRight, EditionRight, CountsRight}
use Rattle.layout.specs.Layout.{sections_of, LaidOut, term_bytes, rule_bytes, membership_bytes, link_bytes, pair_bytes, terms_in}
use Rattle.book.specs.Reading.{book_of}
use Rattle.book.specs.Opening.{Accepts, Right}
use Rattle.book.proofs.Opening.{accepts_right, right_accepts, sections_ordered}
use Rattle.book.proofs.Reading.{right-terms}
use Rattle.book_bytes.proofs.Claims.{count_is, record_is}

module _ (b c : List ℕ) (ok : Accepts b) (claims_written : membership_bytes c (sections_of c) ≡ written_out (membership_bytes b (sections_of b))) where
  right : MembershipsRight (membership_bytes b (sections_of b)) (sections_of b).steps (terms_in (sections_of b))
  right = (accepts_right b ok).memberships_right

  -- its claims are single
  pub written_senses : Accepts c → (i : ℕ) → i < count_at c 2 → get_or c (offset_at c 2 + (4 * i + 2)) 0 < 2
  written_senses also i h =
      subst (λ (q : MembershipRecord). q.sense < 2) (record_is c also i h)
      (subst (λ (s : List ℕ). i < claim_count s → (membership_record s i).sense < 2) (sym claims_written)
      (written-single (sections_of b).steps (terms_in (sections_of b)) (membership_bytes b (sections_of b)) right i) (omega (arith, count_is c also)))

  module _ (steps_same : steps c ≡ steps b) (terms_same : term_bytes c (sections_of c) ≡ term_bytes b (sections_of b))
      (rules_same : rule_bytes c (sections_of c) ≡ rule_bytes b (sections_of b)) (links_same : link_bytes c (sections_of c) ≡ link_bytes b (sections_of b))
      (pairs_same : pair_bytes c (sections_of c) ≡ pair_bytes b (sections_of b)) where
    chain_same : (sections_of c).steps ≡ (sections_of b).steps
    unfolding sections_of
    chain_same = steps_same

    -- it reads as the book with its claims written out
    pub written_reads : book_of c ≡ written (book_of b)
    unfolding book_of
    written_reads =
        let claims = ap memberships_of claims_written ∙ written-singles (sections_of b).steps (terms_in (sections_of b)) (membership_bytes b (sections_of b)) right in
        cc (chain_same)

    -- where its length, edition, counts and layout are right, it is accepted
    pub written-accepted : LengthRight c → EditionRight c → CountsRight c → LaidOut c (sections_of c) → Accepts c
    written-accepted long edition counts laid = right_accepts c (sections_of c) (record {
      sections_are = refl;
      length_right = long;
      edition_right = edition;
      steps_right = rw steps_same before.steps_right;
      counts_right = counts;
      laid_out = laid;
      terms_right = subst TermsRight (sym terms_same) before.terms_right;
      rules_right = rw (rules_same, terms_count) before.rules_right;
      memberships_right = rw (claims_written, chain_same, terms_count) (written-right (sections_of b).steps (terms_in (sections_of b)) (membership_bytes b (sections_of b)) right);
      links_right = rw (links_same, chain_same) before.links_right;
      pairs_right = subst PairsRight (sym pairs_same) before.pairs_right;
    })
      where
        before : Right b (sections_of b)
        before = accepts_right b ok

        terms_count : terms_in (sections_of c) ≡ terms_in (sections_of b)
        terms_count =
            let o = sections_ordered c laid in
            sym (ap (λ (n : ℕ). n / 3) (length-stretch c (sections_of c).terms (sections_of c).rules (omega arith)))
            ∙ ap term_count terms_same ∙ right-terms b (sections_of b) before
