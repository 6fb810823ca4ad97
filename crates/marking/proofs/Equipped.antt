-- Laws of what marking and placing work with: eliminating has what it asks, and what it gives is the book's.
-- Assumes nothing.
use mathlib.Core.Path.{◌≡◌, sym, ap, subst, ◌∙◌}
use mathlib.Core.List.{List}
use Prim.Native.Nat.{ℕ, ◌≤◌}
use native.Mathlib.Omega.{arith}
use Rattle.semantics.specs.Interpretations.{Grading}
use Rattle.semantics.specs.Books.{Book}
use Rattle.types.specs.Candidates.{candidates, places}
use Rattle.sections.specs.Terms.{term_count, terms_of}
use Rattle.claims.specs.Rules.{rules_of, RulesRight}
use Rattle.gradings.specs.Gradings.{grading}
use Rattle.gradings.specs.declared.Logic.{Logic}
use Rattle.slots.proofs.Collecting.{places-few}
use Rattle.layout.specs.Layout.{term_bytes, rule_bytes}
use Rattle.book.specs.Reading.{book_at, book_of}
use Rattle.layout.specs.declared.Sections.{Sections}
use Rattle.book.proofs.Reading.{right-book, right-terms, right-few}
use Rattle.elimination.specs.Survivors.{survivors, survivors_of}
use Rattle.entries.specs.Eliminating.{Task as Elimination}
use Rattle.marking.specs.Equipped.{Equipped}

-- there are few enough quantified terms for the slots
pub places_fit : (b : List ℕ) (s : Sections) (l : Logic) → grading l (terms_of (term_bytes b s)) ≡ (book_of b).grading → 1 ≤ l.steps
    → candidates (book_of b).grading ≤ 16384 → places (terms_of (term_bytes b s)) ≤ 16
places_fit b s l e low h = omega (arith, places-few (grading l (terms_of (term_bytes b s))) low (subst (λ (G : Grading). candidates G ≤ 16384) (sym e) h))

module _ (b : List ℕ) (s : Sections) (l : Logic) (slots : List ℕ) (w : Equipped b s l slots) where
  pub stands_at : grading l (terms_of (term_bytes b s)) ≡ (book_at b s).grading
  stands_at = w.stands ∙ sym (ap (λ (B : Book). B.grading) (right-book b s w.right))

  pub steps_same : s.steps ≡ l.steps
  steps_same = sym (ap (λ (G : Grading). G.steps) stands_at)

  pub few_terms : term_count (term_bytes b s) ≤ 64
  few_terms = omega (arith, right-terms b s w.right, right-few b s w.right)

  -- ---- eliminating

  module _ (terms rules : List ℕ) (et : terms ≡ term_bytes b s) (er : rules ≡ rule_bytes b s) where
    pub elimination : (count : ℕ) → candidates (book_of b).grading ≡ count → count ≤ 16384 → Elimination l terms slots rules count
    elimination count e few = rw (et, er) (record {
      terms_right = w.right.terms_right;
      rules_right = subst (RulesRight (rule_bytes b s)) (sym (right-terms b s w.right)) w.right.rules_right;
      slots_are = w.slots_are;
      few_terms = few_terms;
      few_slots = w.few_slots;
      few_steps = omega (arith, w.few_steps);
      few = few;
      counted = sym (ap candidates w.stands ∙ e);
    })

    pub survivors-are : survivors (grading l (terms_of terms)) (rules_of rules) ≡ survivors_of (book_of b)
    survivors-are =
        rw (et, er) (ap (λ (G : Grading). survivors G (rules_of (rule_bytes b s))) stands_at ∙ ap survivors_of (right-book b s w.right))
