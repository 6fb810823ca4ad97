-- What marking and placing work with: an accepted book's sections, the logic that stands for its grading, and its quantified terms as slots. It stands in
-- private contracts only.
-- Assumes nothing.
use Rattle.std.specs.Prelude.{◌≡◌, List, ℕ, ◌≤◌}
use Rattle.sections.specs.Terms.{terms_of}
use Rattle.gradings.specs.Gradings.{grading}
use Rattle.gradings.specs.declared.Logic.{Logic}
use Rattle.slots.specs.Slots.{slot_count, SlotsOf}
use Rattle.layout.specs.Layout.{term_bytes}
use Rattle.book.specs.Reading.{book_of}
use Rattle.book.specs.Opening.{Right}
use Rattle.layout.specs.declared.Sections.{Sections}

pub record Equipped (b : List ℕ) (s : Sections) (l : Logic) (slots : List ℕ) : Type 0 where
  pub right : Right b s
  pub stands : grading l (terms_of (term_bytes b s)) ≡ (book_of b).grading
  pub few_steps : l.steps ≤ 8
  pub slots_are : SlotsOf (terms_of (term_bytes b s)) slots
  pub few_slots : slot_count slots ≤ 16
