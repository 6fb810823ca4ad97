-- Laws of working out a sheet: which checks that were made give which answer and grid; and what a sheet that fits an accepted book gives the
-- code that works it out.
-- Assumes nothing.
use mathlib.Core.Path.{◌≡◌, sym, ap, ap₂, subst, ◌∙◌}
use mathlib.Core.Logic.{◌↔◌}
use mathlib.Core.Option.{none, some}
use mathlib.Core.List.{List, [], ◌++◌}
use Prim.Native.Nat.{ℕ, ◌*◌, ◌≤◌}
use native.Mathlib.Nat.{mul-le-mul}
use native.Mathlib.Decide.{dec_le}
use native.Mathlib.Omega.{arith}
use lib.ListN.{length, drop}
use Rattle.std.specs.Prelude.{Result, Ok, Err}
use Rattle.refusals.specs.Questions.{Question, first_no}
use Rattle.refusals.specs.Answers.{refusal_in}
use Rattle.refusals.specs.declared.Refusal.{Refusal}
use Rattle.refusals.specs.declared.Refusal.TheVariants as refusal
use Rattle.refusals.proofs.Questions.{first_empty, first_yes, first_no_lem, first-some-append, first-none-append}
use Rattle.refusals.proofs.Answers.{checked-value, checked-refused, answer_refusal, answer_yes}
use Rattle.semantics.specs.Interpretations.{Grading, Interpretation}
use Rattle.semantics.specs.Books.{Book, name_count, role_count, individuals}
use Rattle.sections.specs.Terms.{terms_of}
use Rattle.gradings.specs.Gradings.{grading}
use Rattle.gradings.specs.declared.Logic.{Logic}
use Rattle.layout.specs.Layout.{term_bytes, rule_bytes, membership_bytes, link_bytes, pair_bytes, terms_in}
use Rattle.book.specs.Reading.{book_at, book_of, counts_of}
use Rattle.book.specs.Opening.{book_questions, Accepts, Right, opened_of}
use Rattle.layout.specs.declared.Sections.{Sections}
use Rattle.book.specs.declared.Counts.{Counts}
use Rattle.book.proofs.Opening.{opened_refused, right_accepts}
use Rattle.book.proofs.Reading.{right-book, right-few, right_short, right-length, right_counts, right_valid}
use Rattle.working.specs.Grids.{grid_of}
use Rattle.working.specs.Working.{verdict_of}
use Rattle.working.specs.declared.Verdict.{Verdict}
use Rattle.working.specs.declared.Verdict.TheVariants.{Meets}
use Rattle.shapes.specs.Layout.{EntriesRight, name_bytes, link_bytes as sheetLinks, individual_bytes}
use Rattle.sheets.specs.Reading.{sheet_of}
use Rattle.sheets.specs.Opening.{sheet_opened}
use Rattle.shapes.specs.declared.Shape.{Shape}
use Rattle.sheets.proofs.Opening.{opened_right, opened_refused as sheet-refused, right-none, length-names, length-links, length-individuals}
use Rattle.sheets.proofs.Reading.{everywhere, sheet-is}
use Rattle.columns.specs.Columns.{rows_of}
use Rattle.columns.specs.declared.Columns.{Columns}
use Rattle.columns.specs.Workable.{Workable, WorkedAll}
use Rattle.columns.proofs.Rows.{rows_grid}
use Rattle.verdicts.specs.Verdicts.{verdict_in, Covered}
use Rattle.verdicts.proofs.Verdicts.{verdict_in_lem, covered}
use Rattle.checker.specs.Fitting.{SheetFits, Filled}
use Rattle.checker.specs.Working.{worked_by, grid_by, grid_size, book_sheet_questions, work_questions, grid_after}

-- ---- the first no

module _ (b t : List ℕ) where
  pub work_book : (g : ℕ) (r : Refusal) → opened_of b ≡ Err r → first_no (work_questions b t g) ≡ some r
  work_book g r e = first-some-append (book_questions b) _ r (opened_refused b r e)

  module _ (s : Sections) (ok : Right b s) where
    accepted : first_no (book_questions b) ≡ none
    unfolding Accepts
    accepted = right_accepts b s ok

    pub work_sheet : (g : ℕ) (r : Refusal) → first_no (book_sheet_questions b t) ≡ some r → first_no (work_questions b t g) ≡ some r
    work_sheet g r e = first-none-append (book_questions b) _ accepted ∙ first-some-append (book_sheet_questions b t) _ r e

    module _ (p : Shape) (fits : SheetFits b t p) where
      pub work_16 : (g : ℕ) → ¬ (grid_size b t ≤ g) → first_no (work_questions b t g) ≡ some refusal.Grid
      work_16 g n =
          first-none-append (book_questions b) _ accepted ∙ first-none-append (book_sheet_questions b t) _ (right-none t p _ _ _ _ fits)
          ∙ first_no_lem refusal.Grid (dec_le (grid_size b t) g) [] n

      pub work_none : (g : ℕ) → grid_size b t ≤ g → first_no (work_questions b t g) ≡ none
      work_none g h =
          first-none-append (book_questions b) _ accepted ∙ first-none-append (book_sheet_questions b t) _ (right-none t p _ _ _ _ fits)
          ∙ first_yes refusal.Grid (dec_le (grid_size b t) g) [] h ∙ first_empty

-- ---- the answer and the grid, by it

module _ (B : Book) (I : Interpretation) (qs : List Question) where
  pub worked_says : first_no qs ≡ none → worked_by B I qs ≡ Ok (verdict_of B I)
  unfolding worked_by
  worked_says = checked-value Err _ qs

  -- "meets": no question says no, and that is the verdict
  pub worked_met : (worked_by B I qs ≡ Ok Meets) ↔ ((first_no qs ≡ none) × (verdict_of B I ≡ Meets))
  unfolding worked_by
  worked_met = (answer_yes (verdict_of B I) qs Meets, λ u. checked-value Err _ qs u.0 ∙ ap Ok u.1)

  pub worked_verdict : (v : Verdict) → worked_by B I qs ≡ Ok v → verdict_of B I ≡ v
  unfolding worked_by
  worked_verdict v e = (answer_yes (verdict_of B I) qs v e).1

  -- the answer's refusal is the first no
  pub worked_refusal : refusal_in (worked_by B I qs) ≡ first_no qs
  unfolding worked_by
  worked_refusal = answer_refusal (verdict_of B I) qs

  module _ (grid : List ℕ) where
    pub grid_refused : (r : Refusal) → first_no qs ≡ some r → grid_by B I qs grid ≡ grid
    unfolding grid_by
    grid_refused = checked-refused (λ _. grid) _ qs

    -- what a refusal answers, and that it keeps the grid
    pub refused : (r : Refusal) → first_no qs ≡ some r → (Err r ≡ worked_by B I qs) × (grid ≡ grid_by B I qs grid)
    unfolding worked_by
    refused r e = (sym (checked-refused Err _ qs r e), sym (grid_refused r e))

    pub grid_filled : first_no qs ≡ none → grid_by B I qs grid ≡ grid_of B.grading I ++ drop (I.size * length B.grading.terms) grid
    unfolding grid_by
    grid_filled = checked-value (λ _. grid) _ qs

pub grid_worked : (b t grid : List ℕ) → first_no (work_questions b t (length grid)) ≡ none
    → grid_after b t grid ≡ grid_of (book_of b).grading (sheet_of t) ++ drop (grid_size b t) grid
unfolding grid_size sheet_of
grid_worked b t grid e = grid_filled (book_of b) (sheet_of t) _ grid e

-- ---- a sheet that fits an accepted book

module _ (b t : List ℕ) (s : Sections) (ok : Right b s) (p : Shape) (fits : SheetFits b t p) where
  -- by the number of terms that code counted
  module _ (k : ℕ) (counted : k ≡ terms_in s) where
    pub size_is : grid_size b t ≡ p.elements * k
    unfolding grid_size
    size_is = rw (counted, fits.shape_is, right-length b s ok)

    pub size_few : p.elements * k ≤ 4096
    size_few = rw counted (mul-le-mul fits.head_right.1.1.1.1.0 (right-few b s ok))

    pub fits_grid : (v : Columns) → Filled b t v → rows_of v k p.elements ≡ grid_of (book_of b).grading (sheet_of t)
    unfolding Filled
    fits_grid v holds =
        ap₂ (rows_of v) (counted ∙ sym (right-length b s ok)) (ap (λ (I : Interpretation). I.size) (sheet-is t p _ _ _ _ fits))
        ∙ rows_grid (book_of b).grading (sheet_of t) v holds

  -- by a logic that stands, with the section of terms, for the book's grading
  module _ (ts : List ℕ) (lg : Logic) (are : ts ≡ term_bytes b s) (is : grading lg (terms_of (term_bytes b s)) ≡ (book_of b).grading) where
    pub fits_workable : Workable ts lg p.elements p.names p.roles (name_bytes t p) (sheetLinks t p)
    fits_workable =
        let k = right_counts b s ok in
        let entries = subst (λ (G : Grading). EntriesRight t p G.steps) (sym is) fits.entries_right in
        rw are (record {
          right = ok.terms_right;
          few_terms = right_short b s ok;
          few_elements = fits.head_right.1.1.1.1.0;
          names_long = omega (arith, length-names t p _ _ _ _ fits);
          links_long = omega (arith, length-links t p _ _ _ _ fits);
          names_le = everywhere (λ g. g ≤ lg.steps) (name_bytes t p) (omega arith) entries.0;
          links_le = everywhere (λ g. g ≤ lg.steps) (sheetLinks t p) (omega arith) entries.1.0;
          names_counted = omega (arith, k.1, fits.head_right.1.1.1.1.1.0);
          roles_counted = omega (arith, k.2, fits.head_right.1.1.1.1.1.1.0);
        })

    pub fits_filled : (v : Columns) → WorkedAll ts lg p.elements p.names (name_bytes t p) (sheetLinks t p) v → Filled b t v
    unfolding Filled
    fits_filled v h = rw (← is, ← are, ← sheet-is t p _ _ _ _ fits) (h (individual_bytes t p))

  -- by the sections of rules, pairs and claims, and by columns that hold the grades
  module _ (rs ps ms qs : List ℕ) (rules : rs ≡ rule_bytes b s) (pairs : ps ≡ pair_bytes b s) (memberships : ms ≡ membership_bytes b s)
      (links : qs ≡ link_bytes b s) where
    pub fits_covered : Covered rs ps ms qs p.elements (sheetLinks t p) (individual_bytes t p)
    fits_covered =
        let k = right_counts b s ok in
        rw (rules, pairs, memberships, links)
        (covered _ _ _ _ _ _ _ s.steps (terms_in s) p.roles ok.rules_right ok.memberships_right (omega (arith, right-few b s ok))
        (omega (arith, k.3, fits.head_right.1.1.1.1.1.1.1, length-individuals t p _ _ _ _ fits))
        (omega (arith, k.2, fits.head_right.1.1.1.1.1.1.0))
        (omega (arith, length-links t p _ _ _ _ fits)))

    pub fits_verdict : (v : Columns) → Filled b t v → verdict_in rs ps ms qs v p.elements (sheetLinks t p) (individual_bytes t p) ≡ verdict_of (book_of b) (sheet_of t)
    unfolding Filled
    fits_verdict v holds =
        rw (rules, pairs, memberships, links, ← right-book b s ok, ← sheet-is t p _ _ _ _ fits)
        (verdict_in_lem (book_at b s).grading _ _ _ _ _ p.names (name_bytes t p) _ _ v (right_valid b s ok) fits.head_right.1.1.1.0 fits.entries_right.1.1
        (rw (← right-book b s ok, ← sheet-is t p _ _ _ _ fits) at holds))

-- ---- what checking the sheet answers, by the counts that code made

module _ (b t : List ℕ) (s : Sections) (ok : Right b s) (k : Counts) (are : k ≡ counts_of (book_of b)) (o : Result Shape Refusal)
    (is : o ≡ sheet_opened t s.steps k.names k.roles k.individuals) where
  opened_is : o ≡ sheet_opened t (book_of b).grading.steps (name_count (book_of b)) (role_count (book_of b)) (individuals (book_of b))
  opened_is = is ∙ rw (are, (right_counts b s ok).0)

  pub sheet-fits : (p : Shape) → o ≡ Ok p → SheetFits b t p
  sheet-fits p e = opened_right t _ _ _ _ p (sym opened_is ∙ e)

  pub sheet-asked : (r : Refusal) → o ≡ Err r → first_no (book_sheet_questions b t) ≡ some r
  sheet-asked r e = sheet-refused t _ _ _ _ r (sym opened_is ∙ e)
