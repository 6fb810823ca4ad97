-- A book with a further, last term that repeats a name: what it reads as, and that no later check says no where it is laid out.
-- Assumes nothing.
use mathlib.Core.Path.{◌≡◌, refl, sym, ap, subst, ◌∙◌}
use mathlib.Core.List.{List, [], ◌∷◌, ◌++◌}
use Prim.Native.Nat.{ℕ, suc, ◌*◌, ◌/◌, ◌<◌}
use native.Mathlib.Omega.{arith}
use lib.ListN.{length, length-append}
use Rattle.encoding.proofs.Stretches.{length-stretch}
use Rattle.semantics.specs.Terms.{name}
use Rattle.semantics.specs.Books.{Book}
use Rattle.semantics.proofs.Terms.{with_term}
use Rattle.claims.specs.Pairs.{PairsRight}
use Rattle.sections.specs.Terms.{term_count, terms_of, TermsRight}
use Rattle.sections.proofs.Terms.{count_more, terms-more, right-more}
use Rattle.heads.specs.Heads.{steps, LengthRight, EditionRight, CountsRight}
use Rattle.layout.specs.Layout.{sections_of, LaidOut, term_bytes, rule_bytes, membership_bytes, link_bytes, pair_bytes, terms_in}
use Rattle.book.specs.Reading.{book_of}
use Rattle.book.specs.Opening.{Accepts, Right}
use Rattle.book.proofs.Opening.{accepts_right, right_accepts, sections_ordered}
use Rattle.book.proofs.Reading.{right-whole}

module _ (b c : List ℕ) (ok : Accepts b) (a : ℕ) (terms_longer : term_bytes c (sections_of c) ≡ term_bytes b (sections_of b) ++ (0 ∷ a ∷ 0 ∷ []))
    (steps_same : steps c ≡ steps b) (rules_same : rule_bytes c (sections_of c) ≡ rule_bytes b (sections_of b))
    (memberships_same : membership_bytes c (sections_of c) ≡ membership_bytes b (sections_of b)) (links_same : link_bytes c (sections_of c) ≡ link_bytes b (sections_of b))
    (pairs_same : pair_bytes c (sections_of c) ≡ pair_bytes b (sections_of b)) where
  before : Right b (sections_of b)
  before = accepts_right b ok

  whole : length (term_bytes b (sections_of b)) ≡ 3 * terms_in (sections_of b)
  whole = right-whole b (sections_of b) before

  chain_same : (sections_of c).steps ≡ (sections_of b).steps
  unfolding sections_of
  chain_same = steps_same

  pub more_reads : book_of c ≡ with_term (name a) (book_of b)
  unfolding book_of
  more_reads =
      let ts = ap terms_of terms_longer ∙ terms-more (term_bytes b (sections_of b)) (terms_in (sections_of b)) whole 0 a 0 in
      cc (chain_same)

  -- so a term of the book is one of this
  pub more-terms : (i : ℕ) → i < length (book_of b).grading.terms → i < length (book_of c).grading.terms
  more-terms i h =
      subst (λ (B : Book). i < length B.grading.terms) (sym more_reads) (rw (length-append (book_of b).grading.terms (name a ∷ [])) (omega arith))

  -- where its length, edition, counts and layout are right, it is accepted
  pub more-accepted : a < 16 → LengthRight c → EditionRight c → CountsRight c → LaidOut c (sections_of c) → Accepts c
  more-accepted small long edition counts laid = right_accepts c (sections_of c) (record {
    sections_are = refl;
    length_right = long;
    edition_right = edition;
    steps_right = rw steps_same before.steps_right;
    counts_right = counts;
    laid_out = laid;
    terms_right = subst TermsRight (sym terms_longer) (right-more (term_bytes b (sections_of b)) (terms_in (sections_of b)) whole 0 a 0 before.terms_right (small, omega arith));
    rules_right = rw (rules_same, terms_count) (λ i h. let (l, r) = before.rules_right i h in (omega arith, omega arith));
    memberships_right = rw (memberships_same, chain_same, terms_count) (λ i h. let (m, (t, z)) = before.memberships_right i h in (m, (omega arith, z)));
    links_right = rw (links_same, chain_same) before.links_right;
    pairs_right = subst PairsRight (sym pairs_same) before.pairs_right;
  })
    where
      terms_count : terms_in (sections_of c) ≡ suc (terms_in (sections_of b))
      terms_count =
          let o = sections_ordered c laid in
          sym (ap (λ (n : ℕ). n / 3) (length-stretch c (sections_of c).terms (sections_of c).rules (omega arith)))
          ∙ ap term_count terms_longer ∙ count_more (term_bytes b (sections_of b)) (terms_in (sections_of b)) whole 0 a 0
