-- Entering the candidates: the first marks, by the rules alone, and for each candidate its source and its target.
-- Assumes nothing.
use Rattle.std.specs.Prelude.{◌≡◌, ◌↔◌, List, ℕ, ◌≤◌, ◌<◌, get_or}
use Rattle.chain.specs.Search.{rank}
use Rattle.semantics.specs.Interpretations.{Grading}
use Rattle.semantics.specs.Books.{Rule}
use Rattle.types.specs.Candidates.{grade_in}
use Rattle.slots.specs.Slots.{slot_count, slot_child, slot_term}
use Rattle.elimination.specs.Survivors.{Obeys}
use Rattle.elimination.specs.Marks.{Marked, marked?}
use Rattle.partition.specs.Rows.{Classified}
use Rattle.partition.specs.declared.Classes.{Classes}

-- the candidates below b are entered: those that meet the rules are marked, `left` of them, and each has the source of its own grades and the
-- target of its children's
pub record Entered (G : Grading) (rs : List Rule) (slots : List ℕ) (S T : Classes) (marks : List ℕ) (b left : ℕ) : Type 0 where
  pub sources : Classified (λ c q. grade_in G c (slot_term slots q)) (slot_count slots) S.rows S.class b S.count
  pub targets : Classified (λ c q. grade_in G c (slot_child slots q)) (slot_count slots) T.rows T.class b T.count
  pub bits : (c : ℕ) → c < b → get_or marks c 0 ≤ 1
  pub marked : (c : ℕ) → c < b → Marked marks c ↔ Obeys G rs c
  pub counted : left ≡ rank (marked? marks) b
  pub at_most : left ≤ b
