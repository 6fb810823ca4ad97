-- A book whose terms are renumbered so that the places stay what they are has the same implied rules, through the renumbering; and terms with equal grades
-- in every candidate have the same bytes.
-- Assumes nothing.
use mathlib.Core.Path.{◌≡◌, sym, ap, ◌∙◌}
use mathlib.Core.List.{List}
use Prim.Native.Nat.{ℕ, ◌<◌}
use lib.ListN.{length}
use Rattle.chain.proofs.Lists.{each_mem, mem_each}
use Rattle.semantics.specs.Interpretations.{Grading}
use Rattle.semantics.specs.Books.{Book, Valid}
use Rattle.types.specs.Candidates.{grade_in}
use Rattle.types.specs.Sharing.{renumbered}
use Rattle.types.proofs.Sharing.{RenumberedBook, grade-renumbered}
use Rattle.elimination.specs.Survivors.{survivors_of}
use Rattle.elimination.proofs.Sharing.{survivors-renumbered}
use Rattle.subsumption.specs.Subsumption.{implied_byte}
use Rattle.subsumption.proofs.Subsumption.{byte-same}

-- the bytes go by the grades alone
pub byte_by_grades : (G H : Grading) (cs : List ℕ) (i j x y : ℕ) → ((c : ℕ) → grade_in G c i ≡ grade_in H c x) → ((c : ℕ) → grade_in G c j ≡ grade_in H c y)
    → implied_byte G cs i j ≡ implied_byte H cs x y
byte_by_grades G H cs i j x y e f =
    byte-same G cs H cs i j x y (
      λ s. mem_each cs (λ c m. rw (← e c, ← f c) (each_mem _ cs s c m)),
      λ s. mem_each cs (λ c m. rw (e c, f c) (each_mem _ cs s c m)),
    )

pub byte-renumbered : (f : ℕ → ℕ) (B C : Book) → Valid B → RenumberedBook f B C → (i j : ℕ) → i < length B.grading.terms → j < length B.grading.terms
    → implied_byte B.grading (survivors_of B) i j ≡ implied_byte C.grading (survivors_of C) (f i) (f j)
byte-renumbered f B C v r i j h l =
    let us = C.grading.terms in
    let D = renumbered f us B in
    let grade = grade-renumbered B.grading us f v.well_formed r.formed r.terms_renumbered in
    byte_by_grades B.grading D.grading (survivors_of B) i j (f i) (f j) (λ c. grade c i h) (λ c. grade c j l)
    ∙ ap (λ (cs : List ℕ). implied_byte D.grading cs (f i) (f j)) (survivors-renumbered B us f v r.formed r.terms_renumbered)
    ∙ ap (λ (A : Book). implied_byte A.grading (survivors_of A) (f i) (f j)) (sym r.book_is)
