-- What the columns hold of the grades that code works out from a source, and the grade of one term from the columns of those below it.
-- Assumes nothing.
use Rattle.std.specs.Prelude.{ℕ}
use Rattle.sections.specs.Terms.{term_at}
use Rattle.columns.specs.Workable.{WorkedTo as WorkedToBy, WorkedIn as WorkedInBy, WorkedAll as WorkedAllBy, grade_from}
use Rattle.columns.specs.declared.Columns.{Columns}
use Rattle.grids.specs.declared.Source.{Source}

module _ (s : Source) where
  -- the grades of the first k terms
  abbrev pub WorkedTo : (k : ℕ) → Columns → Type 0
  WorkedTo = WorkedToBy s.terms.now s.logic s.elements s.names s.name_grades.now s.links.now

  -- .. of all terms
  abbrev pub WorkedAll : Columns → Type 0
  WorkedAll = WorkedAllBy s.terms.now s.logic s.elements s.names s.name_grades.now s.links.now

  -- .. and of term k those at the first m elements
  abbrev pub WorkedIn : (k m : ℕ) → Columns → Type 0
  WorkedIn = WorkedInBy s.terms.now s.logic s.elements s.names s.name_grades.now s.links.now

  abbrev pub grade_of : Columns → (i e : ℕ) → ℕ
  grade_of v i e = grade_from s.logic s.elements s.names s.name_grades.now s.links.now v i (term_at s.terms.now i) e
