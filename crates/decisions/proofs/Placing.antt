-- Laws of what deciding works with: placing has what it asks, and what it gives is the book's.
-- Assumes nothing.
use mathlib.Core.Path.{◌≡◌, refl, sym, ap, ap₂, ◌∙◌}
use mathlib.Core.List.{List, []}
use Prim.Native.Nat.{ℕ, ◌≤◌}
use lib.ListN.{length}
use Rattle.semantics.specs.Interpretations.{Grading}
use Rattle.semantics.specs.Books.{individuals}
use Rattle.sections.specs.Terms.{terms_of}
use Rattle.claims.specs.Books.{book_of_sections}
use Rattle.gradings.specs.Gradings.{grading}
use Rattle.gradings.specs.declared.Logic.{Logic}
use Rattle.layout.specs.Layout.{term_bytes, rule_bytes, pair_bytes, membership_bytes, link_bytes}
use Rattle.book.specs.Reading.{book_of}
use Rattle.layout.specs.declared.Sections.{Sections}
use Rattle.book.proofs.Reading.{right-book, right-terms}
use Rattle.elimination.specs.Survivors.{survivors_of}
use Rattle.placement.specs.Outcome.{placement_among, placement, holds?}
use Rattle.placer.specs.Placing.{Task as Placing, claims_book}
use Rattle.marking.specs.Equipped.{Equipped}
use Rattle.marking.proofs.Equipped as Marking

module _ (b : List ℕ) (s : Sections) (l : Logic) (slots : List ℕ) (w : Equipped b s l slots) where
  -- rules and pairs play no part in it
  placing_same : (G : Grading) (rs ps ms ls xs : List ℕ) → placement_among (book_of_sections G [] [] ms ls) xs ≡ placement_among (book_of_sections G rs ps ms ls) xs
  unfolding placement_among individuals holds?
  placing_same G rs ps ms ls xs = refl

  module _ (terms ms ls : List ℕ) (et : terms ≡ term_bytes b s) (em : ms ≡ membership_bytes b s) (el : ls ≡ link_bytes b s) where
    pub placing_is : (xs : List ℕ) → xs ≡ survivors_of (book_of b) → placement_among (claims_book l terms ms ls) xs ≡ placement (book_of b)
    unfolding placement
    placing_is xs e =
        rw (et, em, el) (placing_same (grading l (terms_of (term_bytes b s))) (rule_bytes b s) (pair_bytes b s) (membership_bytes b s) (link_bytes b s) xs
        ∙ ap (λ (G : Grading). placement_among (book_of_sections G (rule_bytes b s) (pair_bytes b s) (membership_bytes b s) (link_bytes b s)) xs) (Marking.stands_at b s l slots w)
        ∙ ap₂ placement_among (right-book b s w.right) e)

    individuals_are : individuals (claims_book l terms ms ls) ≡ individuals (book_of b)
    unfolding individuals
    individuals_are = rw (em, el) (ap individuals (right-book b s w.right))

    pub placing : (marks : List ℕ) (count n : ℕ) → count ≤ 16384 → count ≤ length marks → n ≡ individuals (book_of b)
        → Placing l terms slots ms ls marks count n
    placing marks count n few long e = record {
      terms_right = rw et w.right.terms_right;
      slots_are = rw et w.slots_are;
      memberships_right = rw (et, em, right-terms b s w.right, ← Marking.steps_same b s l slots w) w.right.memberships_right;
      links_right = rw (el, ← Marking.steps_same b s l slots w) w.right.links_right;
      few_terms = rw et (Marking.few_terms b s l slots w);
      few_slots = w.few_slots;
      few = few;
      marks_long = long;
      individuals_are = e ∙ sym individuals_are;
    }
