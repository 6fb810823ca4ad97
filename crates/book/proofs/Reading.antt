-- What the checks establish: an accepted book reads as a book that the theory asks for.
-- Assumes nothing.
use mathlib.Core.Path.{◌≡◌, refl, sym, ap, ◌∙◌}
use mathlib.Core.List.{List, []}
use Prim.Native.Nat.{ℕ, ◌*◌, ◌-◌, ◌/◌, ◌≤◌, max}
use native.Mathlib.Nat.{add-sub_cancel_left}
use native.Mathlib.Omega.{arith}
use lib.ListN.{length}
use Rattle.chain.specs.Lists.{highest}
use Rattle.encoding.proofs.Stretches.{length-stretch}
use Rattle.semantics.specs.Books.{Book, Valid, name_above, role_above, link_roles, pair_roles, membership_individuals, link_individuals, name_count, role_count, individuals, RuleInRange, TermInRange}
use Rattle.semantics.proofs.Interpretations.{graded_well_formed}
use Rattle.sections.specs.Terms.{term_count, terms_of}
use Rattle.claims.specs.Pairs.{pairs_of}
use Rattle.claims.specs.Claims.{memberships_of, links_of}
use Rattle.sections.proofs.Terms.{length-terms, terms-ordered, names-few, roles_few}
use Rattle.claims.proofs.Rules.{rules-each}
use Rattle.claims.proofs.Pairs.{pairs_range, pair_roles-few}
use Rattle.claims.proofs.Claims.{memberships-each, individuals_few, link_roles-few}
use Rattle.heads.specs.Heads.{edition, count_at, count_of_pairs, CountsRight}
use Rattle.layout.specs.Layout.{sections_of, term_bytes, rule_bytes, membership_bytes, link_bytes, pair_bytes, terms_in}
use Rattle.heads.proofs.Editions.{edition_other}
use Rattle.book.specs.Reading.{book_at, book_of}
use Rattle.book.specs.Opening.{Accepts, Right}
use Rattle.layout.specs.declared.Sections.{Sections}
use Rattle.book.proofs.Opening.{accepts_right, right-ordered}

-- the number of terms is the count of their entry
sections_few : (b : List ℕ) → CountsRight b → terms_in (sections_of b) ≤ 64
unfolding sections_of
sections_few b h = omega arith

sections_short : (b : List ℕ) → CountsRight b → (sections_of b).rules - (sections_of b).terms ≤ 192
unfolding sections_of
sections_short b h = omega arith

sections_whole : (b : List ℕ) → (sections_of b).rules - (sections_of b).terms ≡ 3 * terms_in (sections_of b)
unfolding sections_of
sections_whole b = omega arith

module _ (b : List ℕ) (s : Sections) (ok : Right b s) where
  -- the sections' stretches are the book's
  pub right-book : book_at b s ≡ book_of b
  unfolding book_of
  right-book = ap (book_at b) ok.sections_are

  -- the rules and claims are checked against the number of terms that there are, which is at most 64
  pub right-terms : term_count (term_bytes b s) ≡ terms_in s
  right-terms =
      let o = right-ordered b s ok in
      ap (λ (n : ℕ). n / 3) (length-stretch b s.terms s.rules (omega arith))

  pub right-few : terms_in s ≤ 64
  right-few = rw ok.sections_are (sections_few b ok.counts_right)

  pub right-whole : length (term_bytes b s) ≡ 3 * terms_in s
  right-whole =
      let o = right-ordered b s ok in
      length-stretch b s.terms s.rules (omega arith) ∙ rw ok.sections_are (sections_whole b)

  pub right_short : length (term_bytes b s) ≤ 192
  right_short =
      let o = right-ordered b s ok in
      rw (length-stretch b s.terms s.rules (omega arith), ok.sections_are) (sections_short b ok.counts_right)

  -- N, A, R and I, by the sections
  pub right_counts : ((book_of b).grading.steps ≡ s.steps)
      × (name_count (book_of b) ≡ highest name_above (terms_of (term_bytes b s)))
      × (role_count (book_of b)
      ≡ max (max (highest role_above (terms_of (term_bytes b s))) (highest link_roles (links_of (link_bytes b s)))) (highest pair_roles (pairs_of (pair_bytes b s))))
      × (individuals (book_of b) ≡ max (highest membership_individuals (memberships_of (membership_bytes b s))) (highest link_individuals (links_of (link_bytes b s))))
  unfolding name_count role_count individuals
  right_counts = (
    ap (λ (B : Book). B.grading.steps) (sym right-book),
    ap name_count (sym right-book),
    ap role_count (sym right-book),
    ap individuals (sym right-book),
  )

  pub right-length : length (book_of b).grading.terms ≡ terms_in s
  right-length = ap (λ (B : Book). length B.grading.terms) (sym right-book) ∙ length-terms (term_bytes b s) ∙ right-terms

  terms_count : length (terms_of (term_bytes b s)) ≡ terms_in s
  terms_count = length-terms (term_bytes b s) ∙ right-terms

  pub right_valid : Valid (book_at b s)
  right_valid = record {
    well_formed = graded_well_formed s.steps (terms_of (term_bytes b s)) (pairs_of (pair_bytes b s)) (terms-ordered (term_bytes b s) ok.terms_right);
    rules_in = rules-each (rule_bytes b s) (RuleInRange (book_at b s).grading) (λ i l. rw terms_count (ok.rules_right i l));
    pairs_in = pairs_range (pair_bytes b s) ok.pairs_right;
    terms_in_range = memberships-each (membership_bytes b s) (TermInRange (book_at b s).grading) (λ i l. rw terms_count (ok.memberships_right i l).1.0);
    ranked = refl;
  }

  -- the numbers that terms, claims and pairs may name are within the format's bounds
  pub right-individuals : individuals (book_of b) ≤ 8
  right-individuals = omega (
    arith,
    right_counts.3,
    individuals_few s.steps (terms_in s) (membership_bytes b s) (link_bytes b s) ok.memberships_right ok.links_right,
  )

  pub right_roles : role_count (book_of b) ≤ 8
  right_roles = omega (
    arith,
    right_counts.2,
    roles_few (term_bytes b s) ok.terms_right,
    link_roles-few s.steps (link_bytes b s) ok.links_right,
    pair_roles-few (pair_bytes b s) ok.pairs_right,
  )

  pub right-names : name_count (book_of b) ≤ 16
  right-names = omega (arith, right_counts.1, names-few (term_bytes b s) ok.terms_right)

pub accepts_valid : (b : List ℕ) → Accepts b → Valid (book_of b)
unfolding book_of
accepts_valid b h = right_valid b (sections_of b) (accepts_right b h)

-- ---- the two editions

-- edition 1 has no pairs
pub first_unpaired : (b : List ℕ) → edition b ≡ 1 → pair_bytes b (sections_of b) ≡ []
unfolding sections_of
first_unpaired b e =
    let none : count_of_pairs b ≡ 0 = edition_other (edition b) (count_at b 4) 0 (λ h. omega arith) in
    rw (add-sub_cancel_left, none)

-- a book of edition 1, and one of edition 2 that has the same sections and no pairs, have one meaning
pub editions_agree : (b c : List ℕ) → (let s = sections_of b in let t = sections_of c in
    edition b ≡ 1 → s.steps ≡ t.steps → term_bytes b s ≡ term_bytes c t → rule_bytes b s ≡ rule_bytes c t → membership_bytes b s ≡ membership_bytes c t
    → link_bytes b s ≡ link_bytes c t → pair_bytes c t ≡ [] → book_of b ≡ book_of c)
unfolding book_of
editions_agree b c e steps terms rules memberships links none = let n = first_unpaired b e in cc
