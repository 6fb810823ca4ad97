-- Laws of marks, of an abstract book after questions: what they list, and what is kept.
-- Assumes nothing.
use mathlib.Core.Path.{◌≡◌, refl, sym, ap, ap₂, subst, ◌∙◌}
use mathlib.Core.Logic.{dite, ite, ◌↔◌, ◌⊎◌, inl, inr}
use mathlib.Core.Option.{none, some}
use mathlib.Core.List.{List, ◌++◌}
use Prim.Native.Nat.{ℕ, ◌+◌, ◌-◌, ◌≤◌, ◌<◌}
use native.Mathlib.Decide.{ℕ_discrete, dec_lt}
use native.Mathlib.Omega.{arith}
use lib.ListN.{length, get_or, take, drop, length-append, length-drop, get_or-append}
use lib.Seq.{take_at, drop_at, get_or-drop}
use Rattle.chain.specs.Lists.{Mem, any?}
use Rattle.chain.proofs.Lists.{get_or-table, ascending_same}
use Rattle.refusals.specs.Questions.{Question, first_no}
use Rattle.refusals.proofs.Answers.{checked-value, checked-refused, checked_alike}
use Rattle.refusals.specs.declared.Refusal.{Refusal}
use Rattle.semantics.specs.Books.{Book}
use Rattle.types.specs.Candidates.{candidates}
use Rattle.elimination.specs.Survivors.{survivors_of}
use Rattle.elimination.specs.Marks.{marks_of, Marked, marked}
use Rattle.elimination.proofs.Survivors.{survivors_ascending, survivors_sound}
use Rattle.elimination.proofs.Marks.{length-marks, marked-marks, marked_mem, marked_ascending}
use Rattle.marking.specs.Marking.{marked_in, marks_by}

module _ (B : Book) (count : ℕ) (e : candidates B.grading ≡ count) (marks : List ℕ) where
  pub marked_in_lem : marked (marked_in B marks) count ≡ survivors_of B
  marked_in_lem =
      subst (λ (n : ℕ). marked (marked_in B marks) n ≡ survivors_of B) e
      (marked-marks (survivors_of B) (candidates B.grading) _ (survivors_ascending B.grading B.rules) (survivors_sound B.grading B.rules).candidate)

  pub marked-length : count ≤ length marks → length (marked_in B marks) ≡ length marks
  marked-length h =
      length-append (marks_of (survivors_of B) (candidates B.grading)) _
      ∙ omega (arith, length-marks (survivors_of B) (candidates B.grading), length-drop (candidates B.grading) marks)

-- ---- after questions

module _ (B : Book) (qs : List Question) (marks : List ℕ) where
  -- a refusal changes none
  pub marks-refused : (r : Refusal) → first_no qs ≡ some r → marks_by B qs marks ≡ marks
  unfolding marks_by
  marks-refused = checked-refused (λ _. marks) _ qs

  module _ (ok : first_no qs ≡ none) where
    abbrev k : ℕ
    k = candidates B.grading

    abbrev after : List ℕ
    after = marks_by B qs marks

    pub marks-are : after ≡ marked_in B marks
    unfolding marks_by
    marks-are = checked-value (λ _. marks) _ qs ok

    pub listed-are : marked after k ≡ survivors_of B
    listed-are = ap (λ (l : List ℕ). marked l k) marks-are ∙ marked_in_lem B k refl marks

    -- the mark bytes are the definition's, whatever the buffer held; those past them are kept
    pub marks_front : take k after ≡ marks_of (survivors_of B) k
    marks_front = ap (take k) marks-are ∙ take_at (marks_of (survivors_of B) k) _ k (length-marks (survivors_of B) k)

    pub marks-kept : drop k after ≡ drop k marks
    marks-kept = ap (drop k) marks-are ∙ drop_at (marks_of (survivors_of B) k) _ k (length-marks (survivors_of B) k)

    -- each is 1 for a listed candidate, and else 0
    pub mark_listed : (c : ℕ) → c < k → Marked after c ↔ Mem c (marked after k)
    mark_listed c h = (λ e. (marked_mem after k c).1 (h, e), λ m. ((marked_mem after k c).0 m).1)

    pub survivor_marked : (c : ℕ) → Mem c (survivors_of B) → Marked after c
    survivor_marked c m = ((marked_mem after k c).0 (subst (Mem c) (sym listed-are) m)).1

    pub mark_bit : (c : ℕ) → c < k → (get_or after c 0 ≡ 0) ⊎ (get_or after c 0 ≡ 1)
    unfolding marks_of
    mark_bit c h =
        rw marks-are (subst (λ (x : ℕ). (x ≡ 0) ⊎ (x ≡ 1))
        (sym (get_or-append (marks_of (survivors_of B) k) _ 0 c (rw (length-marks (survivors_of B) k) h)
        ∙ get_or-table (λ c. ite (any? (ℕ_discrete c) (survivors_of B)) 1 0) k c 0 h)) (go (any? (ℕ_discrete c) (survivors_of B))))
      where
        go : {A : Type 0} (t : Dec A) → (ite {C = ℕ} t 1 0 ≡ 0) ⊎ (ite {C = ℕ} t 1 0 ≡ 1)
        go (yes a) = inr refl
        go (no n) = inl refl

    module _ (room : k ≤ length marks) where
      pub marks-length : length after ≡ length marks
      marks-length = ap length marks-are ∙ marked-length B k refl marks room

      -- where no byte of the buffer was 1, the whole buffer lists them
      pub listed-all : ((c : ℕ) → ¬ Marked marks c) → marked after (length marks) ≡ survivors_of B
      listed-all clear =
          ascending_same 0 (marked after (length marks)) (survivors_of B) (marked_ascending after (length marks)) (survivors_ascending B.grading B.rules)
          (λ c. (λ h. to c ((marked_mem after (length marks) c).0 h), of c))
        where
          -- a byte past the candidates' is as it was
          past : (c : ℕ) → k ≤ c → Marked after c → Marked marks c
          past c l h =
              let e : c ≡ k + (c - k) = omega arith in
              ap (λ (i : ℕ). get_or marks i 0) e ∙ sym (get_or-drop k marks (c - k) 0) ∙ sym (ap (λ (l : List ℕ). get_or l (c - k) 0) marks-kept)
              ∙ get_or-drop k after (c - k) 0 ∙ sym (ap (λ (i : ℕ). get_or after i 0) e) ∙ h

          to : (c : ℕ) → (c < length marks) × Marked after c → Mem c (survivors_of B)
          to c u =
              dite (dec_lt c k) (λ l. subst (Mem c) listed-are ((marked_mem after k c).1 (l, u.1)))
              (λ l. absurd (clear c (past c (omega arith) u.1)))

          of : (c : ℕ) → Mem c (survivors_of B) → Mem c (marked after (length marks))
          of c h =
              let u = (marked_mem after k c).0 (subst (Mem c) (sym listed-are) h) in
              (marked_mem after (length marks) c).1 (omega (arith, u.0, room), u.1)

-- two books with the same candidates and survivors, after questions that say no alike, are marked alike
pub marks-same : (B C : Book) (qs rs : List Question) → candidates B.grading ≡ candidates C.grading → survivors_of B ≡ survivors_of C
    → first_no qs ≡ first_no rs → (marks : List ℕ) → marks_by B qs marks ≡ marks_by C rs marks
unfolding marks_by
marks-same B C qs rs candidates_same survivors_same e marks =
    checked_alike (λ _. marks) _ _ qs rs e
    (λ _. ap₂ (λ (xs : List ℕ) (n : ℕ). marks_of xs n ++ drop n marks) survivors_same candidates_same)
