-- What placing asks of its arguments, and what it finds.
-- Assumes nothing.
use Rattle.std.specs.Prelude.{◌≡◌, Bool, List, [], ℕ, ◌≤◌, length, take}
use Rattle.semantics.specs.Books.{Book, individuals}
use Rattle.sections.specs.Terms.{term_count, terms_of, TermsRight}
use Rattle.claims.specs.Claims.{MembershipsRight, LinksRight}
use Rattle.claims.specs.Books.{book_of_sections}
use Rattle.gradings.specs.Gradings.{grading}
use Rattle.gradings.specs.declared.Logic.{Logic}
use Rattle.slots.specs.Slots.{slot_count, SlotsOf}
use Rattle.elimination.specs.Marks.{marked}
use Rattle.placement.specs.Outcome.{placement_among}
use Rattle.placer.specs.Walk.{placed}

-- the book, but for its rules: no placement looks at them
abbrev pub claims_book : Logic → (terms ms ls : List ℕ) → Book
claims_book l ts ms ls = book_of_sections (grading l (terms_of ts)) [] [] ms ls

-- the sections are right, the slots are the quantified terms, and n is the number of individuals; candidates below `count` have a mark
pub record Task (l : Logic) (terms slots ms ls marks : List ℕ) (count n : ℕ) : Type 0 where
  pub terms_right : TermsRight terms
  pub slots_are : SlotsOf (terms_of terms) slots
  pub memberships_right : MembershipsRight ms l.steps (term_count terms)
  pub links_right : LinksRight ls l.steps
  pub few_terms : term_count terms ≤ 64
  pub few_slots : slot_count slots ≤ 16
  pub few : count ≤ 16384
  pub marks_long : count ≤ length marks
  pub individuals_are : n ≡ individuals (claims_book l terms ms ls)

-- r and the seats are the first placement at marked candidates that meets every claim, or that there is none
abbrev pub Places : Logic → (terms ms ls marks : List ℕ) (count n : ℕ) (r : Bool) (seats : List ℕ) → Type 0
Places l ts ms ls marks count n r seats = placed r (take n seats) ≡ placement_among (claims_book l ts ms ls) (marked marks count)
