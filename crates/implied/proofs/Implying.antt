-- Laws of the table of implied rules: which checks that were made give which answer, marks and table, and what the buffers then hold.
-- Assumes nothing.
use mathlib.Core.Path.{◌≡◌, refl, sym, ap, ◌∙◌}
use mathlib.Core.Logic.{dite, ◌↔◌}
use mathlib.Core.Option.{none, some}
use mathlib.Core.List.{List, [], ◌++◌}
use Prim.Native.Nat.{ℕ, ◌+◌, ◌*◌, ◌≤◌, ◌<◌}
use Rattle.std.specs.Prelude.{Ok, Err}
use native.Mathlib.Nat.{mul-suc, mul-le-mul, mul-le-mul_left}
use native.Mathlib.Decide.{dec_le}
use native.Mathlib.Omega.{arith}
use lib.ListN.{length, get_or, drop, length-append, length-drop, get_or-append}
use lib.Seq.{drop_at}
use Rattle.refusals.specs.Questions.{Question, first_no}
use Rattle.refusals.specs.Answers.{refusal_in}
use Rattle.refusals.specs.declared.Refusal.{Refusal}
use Rattle.refusals.specs.declared.Refusal.TheVariants as refusal
use Rattle.refusals.proofs.Questions.{first-none, first-both, two_before, two_first, two_second, two_none, two_both}
use Rattle.refusals.proofs.Answers.{checked-value, checked-refused, answer_refusal, answer_no}
use Rattle.semantics.specs.Interpretations.{Grading}
use Rattle.semantics.specs.Books.{Book}
use Rattle.types.specs.Candidates.{candidates}
use Rattle.sections.specs.Terms.{term_count, terms_of}
use Rattle.gradings.specs.Gradings.{grading}
use Rattle.gradings.specs.declared.Logic.{Logic}
use Rattle.heads.specs.Heads.{count_at}
use Rattle.layout.specs.Layout.{sections_of, term_bytes, terms_in}
use Rattle.layout.specs.declared.Sections.{Sections}
use Rattle.book.specs.Reading.{book_of}
use Rattle.book.specs.Opening.{book_questions, Accepts, Right}
use Rattle.book.proofs.Reading.{right-length, right-terms, right-few}
use Rattle.counter.specs.Counting.{candidate_questions, few_candidates?}
use Rattle.elimination.specs.Survivors.{survivors_of}
use Rattle.marking.specs.Marking.{marked_in, marks_by}
use Rattle.elimination.specs.Marks.{marked}
use Rattle.marking.proofs.Marking.{marked_in_lem, marks-refused, marks-are}
use Rattle.subsumption.specs.Subsumption.{implied_byte, implied_table}
use Rattle.subsumption.proofs.Subsumption.{length_implied, implied_at}
use Rattle.implied.specs.Implying.{table_size, implied_by, table_by, implied_questions, survivors_in}

-- ---- the first no

module _ (b : List ℕ) (m t : ℕ) where
  abbrev qs : List Question
  qs = candidate_questions b

  abbrev marks? : Dec (candidates (book_of b).grading ≤ m)
  marks? = dec_le (candidates (book_of b).grading) m

  abbrev table? : Dec (table_size (book_of b) ≤ t)
  table? = dec_le (table_size (book_of b)) t

  pub implied_before : (r : Refusal) → first_no qs ≡ some r → first_no (implied_questions b m t) ≡ some r
  implied_before = two_before qs refusal.Marks refusal.Table marks? table?

  pub implied_11 : first_no qs ≡ none → ¬ (candidates (book_of b).grading ≤ m) → first_no (implied_questions b m t) ≡ some refusal.Marks
  implied_11 = two_first qs refusal.Marks refusal.Table marks? table?

  pub implied_23 : first_no qs ≡ none → candidates (book_of b).grading ≤ m → ¬ (table_size (book_of b) ≤ t) → first_no (implied_questions b m t) ≡ some refusal.Table
  implied_23 = two_second qs refusal.Marks refusal.Table marks? table?

  pub implied_none : first_no qs ≡ none → candidates (book_of b).grading ≤ m → table_size (book_of b) ≤ t → first_no (implied_questions b m t) ≡ none
  implied_none = two_none qs refusal.Marks refusal.Table marks? table?

  pub says_23 : first_no qs ≡ none → candidates (book_of b).grading ≤ m → (first_no (implied_questions b m t) ≡ some refusal.Table) ↔ (t < table_size (book_of b))
  says_23 counted room = (
    λ e. dite table? (λ h. let z = sym (implied_none counted room h) ∙ e in let y : ◌≡◌ {A = ℕ} 0 1 = cc in absurd (omega arith)) (λ n. omega arith),
    λ l. implied_23 counted room (λ h. omega (arith, h, l)),
  )

  -- what it takes that none says no
  pub implied_suffices : first_no (implied_questions b m t) ≡ none
      → Accepts b × (candidates (book_of b).grading ≤ 16384) × (candidates (book_of b).grading ≤ m) × (table_size (book_of b) ≤ t)
  unfolding Accepts
  implied_suffices e =
      let u = two_both qs refusal.Marks refusal.Table marks? table? e in
      let v = first-both (book_questions b) _ u.0 in
      (v.0, (first-none refusal.Candidates (few_candidates? (book_of b)) [] v.1).0, u.1, u.2)

-- ---- the answer and the buffers, by it

module _ (B : Book) (qs : List Question) where
  -- a refusal changes neither buffer
  pub refused : (marks table : List ℕ) (r : Refusal) → first_no qs ≡ some r
      → (Err r ≡ implied_by B qs) × ((marks ≡ marks_by B qs marks) × (table ≡ table_by B qs table))
  unfolding implied_by table_by
  refused marks table r e =
      (sym (checked-refused Err _ qs r e), (sym (marks-refused B qs marks r e), sym (checked-refused (λ _. table) _ qs r e)))

  pub settled : (marks table : List ℕ) → first_no qs ≡ none
      → (Ok (length (survivors_of B)) ≡ implied_by B qs)
      × ((marked_in B marks ≡ marks_by B qs marks) × (implied_table B.grading (survivors_of B) ++ drop (table_size B) table ≡ table_by B qs table))
  unfolding implied_by table_by
  settled marks table e = (sym (checked-value Err _ qs e), (sym (marks-are B qs marks e), sym (checked-value (λ _. table) _ qs e)))

  pub implied_refused : (r : Refusal) → implied_by B qs ≡ Err r → first_no qs ≡ some r
  unfolding implied_by
  implied_refused = answer_no _ qs

  -- the answer's refusal is the first no
  pub implied_refusal : refusal_in (implied_by B qs) ≡ first_no qs
  unfolding implied_by
  implied_refusal = answer_refusal _ qs

  pub survivors-is : first_no qs ≡ none → survivors_in (implied_by B qs) ≡ length (survivors_of B)
  survivors-is ok = ap survivors_in (sym (settled [] [] ok).0)

  -- ---- the table, where no question says no

  module _ (ok : first_no qs ≡ none) (table : List ℕ) where
    abbrev G : Grading
    G = B.grading

    abbrev width : ℕ
    width = length G.terms

    abbrev after : List ℕ
    after = table_by B qs table

    pub table_is : after ≡ implied_table G (survivors_of B) ++ drop (table_size B) table
    table_is = sym (settled [] table ok).1.1

    pub table_at : (i j : ℕ) → i < width → j < width → get_or after (width * i + j) 0 ≡ implied_byte G (survivors_of B) i j
    table_at i j h l =
        ap (λ (xs : List ℕ). get_or xs (width * i + j) 0) table_is
        ∙ get_or-append (implied_table G (survivors_of B)) (drop (table_size B) table) 0 (width * i + j)
        (omega (arith, length_implied G (survivors_of B), mul-suc width i, mul-le-mul_left width h))
        ∙ implied_at G (survivors_of B) i j h l

    pub table_kept : drop (table_size B) after ≡ drop (table_size B) table
    table_kept = ap (drop (table_size B)) table_is ∙ drop_at (implied_table G (survivors_of B)) _ (table_size B) (length_implied G (survivors_of B))

    pub table-length : table_size B ≤ length table → length after ≡ length table
    table-length h =
        ap length table_is ∙ length-append (implied_table G (survivors_of B)) _
        ∙ omega (arith, length_implied G (survivors_of B), length-drop (table_size B) table)

-- ---- what code has: a section of terms, the logic that stands for the book's grading, and the marks

module _ (b : List ℕ) (s : Sections) (ok : Right b s) where
  -- by the number of terms
  module _ (k : ℕ) (counted : k ≡ terms_in s) where
    pub size_by : table_size (book_of b) ≡ k * k
    size_by = rw (counted, right-length b s ok)

    pub size_few : k * k ≤ 4096
    size_few = rw counted (mul-le-mul (right-few b s ok) (right-few b s ok))

  pub size_is : (terms : List ℕ) → terms ≡ term_bytes b s → table_size (book_of b) ≡ term_count terms * term_count terms
  size_is terms are = size_by (term_count terms) (ap term_count are ∙ right-terms b s ok)

  pub filled : (terms : List ℕ) (lg : Logic) → terms ≡ term_bytes b s → grading lg (terms_of (term_bytes b s)) ≡ (book_of b).grading
      → (marks after : List ℕ) (count : ℕ) → candidates (book_of b).grading ≡ count → after ≡ marked_in (book_of b) marks → (table : List ℕ)
      → implied_table (grading lg (terms_of terms)) (marked after count) ++ drop (term_count terms * term_count terms) table
      ≡ implied_table (book_of b).grading (survivors_of (book_of b)) ++ drop (table_size (book_of b)) table
  filled terms lg are stands marks after count counted is table =
      let G : grading lg (terms_of terms) ≡ (book_of b).grading = ap (λ (l : List ℕ). grading lg (terms_of l)) are ∙ stands in
      let listed : marked after count ≡ survivors_of (book_of b) = ap (λ (l : List ℕ). marked l count) is ∙ marked_in_lem (book_of b) count counted marks in
      rw (G, listed, ← size_is terms are)

-- the number of terms is that of the first entry
pub terms-counted : (b : List ℕ) → Right b (sections_of b) → length (book_of b).grading.terms ≡ count_at b 0
unfolding sections_of
terms-counted b ok = right-length b (sections_of b) ok ∙ omega arith
