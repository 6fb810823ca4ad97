-- Laws of writing a sheet: which checks that were made give which answer and sheet; and that the sheet of a model is right and meets the book.
-- Assumes nothing.
use mathlib.Core.Path.{◌≡◌, sym, ap, ap₂, subst, ◌∙◌}
use mathlib.Core.Option.{Option, none, some}
use mathlib.Core.List.{List, [], ◌∷◌, ◌++◌}
use Prim.Native.Nat.{ℕ, ◌≤◌}
use native.Mathlib.Decide.{ℕ_discrete, dec_le}
use native.Mathlib.Omega.{arith}
use lib.ListN.{length, take, drop}
use lib.Seq.{take_at, drop_at}
use Rattle.chain.specs.Lists.{index}
use Rattle.std.specs.Prelude.{Ok, Err}
use Rattle.refusals.specs.Questions.{Question, ask, first_no}
use Rattle.refusals.specs.Answers.{refusal_in}
use Rattle.refusals.proofs.Questions.{first_empty, first_yes, first_no_lem, first-none, first-some-append, first-none-append, first-both}
use Rattle.refusals.proofs.Answers.{checked-value, checked-refused, checked-before, checked-after, answer_refusal, answer_yes}
use Rattle.refusals.specs.declared.Refusal.{Refusal}
use Rattle.refusals.specs.declared.Refusal.TheVariants as refusal
use Rattle.semantics.specs.Interpretations.{Grading, Agree}
use Rattle.semantics.specs.Books.{Book, Valid, name_count, role_count, individuals, RuleModel, MeetsClaims}
use Rattle.sections.specs.Terms.{terms_of}
use Rattle.gradings.specs.Gradings.{grading}
use Rattle.gradings.specs.declared.Logic.{Logic}
use Rattle.layout.specs.Layout.{term_bytes}
use Rattle.book.specs.Reading.{book_of}
use Rattle.book.specs.Opening.{Accepts, book_questions, Right}
use Rattle.counter.specs.Counting.{candidate_questions}
use Rattle.layout.specs.declared.Sections.{Sections}
use Rattle.book.proofs.Reading.{accepts_valid, right_counts, right-names, right_roles, right-individuals}
use Rattle.shapes.specs.Layout.{end_at}
use Rattle.sheets.specs.Writing.{shape_for, sheet_bytes}
use Rattle.shapes.specs.declared.Shape.{Shape}
use Rattle.sheets.specs.Opening.{SheetRight}
use Rattle.sheets.specs.Reading.{sheet_of}
use Rattle.working.specs.Working.{verdict_of}
use Rattle.working.specs.declared.Verdict.TheVariants.{Meets}
use Rattle.shapes.proofs.Bounds.{few-end}
use Rattle.sheets.proofs.Writing.{length-sheet, sheet_reads, sheet-right, sheet_meets}
use Rattle.elimination.specs.Listed.{types_in}
use Rattle.elimination.specs.Survivors.{survivors_of}
use Rattle.placement.specs.Outcome.{seat, placement, outcome, placed_types}
use Rattle.placement.proofs.Outcome.{outcome-placed, outcome_model, placement-first}
use Rattle.models.specs.Rows.{model_of}
use Rattle.decider.specs.Deciding.{decide_questions, decision_of, marks_after, placement_after, Decidable, placement_in, interpretation_in}
use Rattle.decisions.specs.Decided.{outcome_number}
use Rattle.decisions.specs.declared.Decision.{Decision}
use Rattle.decisions.proofs.Decided.{numbered-outcome}
use Rattle.decider.proofs.Deciding.{decision-refused, decision_decided}
use Rattle.decider.proofs.Listed.{placement_reads, interpretation-is}
use Rattle.written.specs.Writing.{seats_of, model_bytes, model_questions, written_by, sheet_by, write_questions, written_of, sheet_after}

-- ---- the first no, after deciding

module _ (B : Book) (t : ℕ) where
  pub model_17 : ¬ (outcome B ≡ 1) → first_no (model_questions B t) ≡ some refusal.Outcome
  model_17 n = first_no_lem refusal.Outcome (ℕ_discrete (outcome B) 1) _ n

  module _ (holds : outcome B ≡ 1) where
    pub model_18 : ¬ (length (survivors_of B) ≤ 64) → first_no (model_questions B t) ≡ some refusal.Survivors
    model_18 n = first_yes refusal.Outcome (ℕ_discrete (outcome B) 1) _ holds ∙ first_no_lem refusal.Survivors (dec_le (length (survivors_of B)) 64) _ n

    module _ (few : length (survivors_of B) ≤ 64) where
      pub model_19 : ¬ (length (model_bytes B) ≤ t) → first_no (model_questions B t) ≡ some refusal.SheetBuffer
      model_19 n =
          first_yes refusal.Outcome (ℕ_discrete (outcome B) 1) _ holds ∙ first_yes refusal.Survivors (dec_le (length (survivors_of B)) 64) _ few
          ∙ first_no_lem refusal.SheetBuffer (dec_le (length (model_bytes B)) t) [] n

      pub model_none : length (model_bytes B) ≤ t → first_no (model_questions B t) ≡ none
      model_none h =
          first_yes refusal.Outcome (ℕ_discrete (outcome B) 1) _ holds ∙ first_yes refusal.Survivors (dec_le (length (survivors_of B)) 64) _ few
          ∙ first_yes refusal.SheetBuffer (dec_le (length (model_bytes B)) t) [] h ∙ first_empty

-- ---- the answer and the sheet, by it

module _ (B : Book) (qs : List Question) where
  -- a refusal keeps the sheet
  pub written_no : (r : Refusal) (sheet : List ℕ) → first_no qs ≡ some r → (Err r ≡ written_by B qs) × (sheet ≡ sheet_by B qs sheet)
  unfolding written_by sheet_by
  written_no r sheet e = (sym (checked-refused Err _ qs r e), sym (checked-refused (λ _. sheet) _ qs r e))

  pub written_yes : (sheet : List ℕ) → first_no qs ≡ none
      → (Ok (length (model_bytes B)) ≡ written_by B qs) × (model_bytes B ++ drop (length (model_bytes B)) sheet ≡ sheet_by B qs sheet)
  unfolding written_by sheet_by
  written_yes sheet e = (sym (checked-value Err _ qs e), sym (checked-value (λ _. sheet) _ qs e))

  -- more questions after those that say yes
  pub written-after_yes : (rs : List Question) (sheet : List ℕ) → first_no qs ≡ none
      → (written_by B rs ≡ written_by B (qs ++ rs)) × (sheet_by B rs sheet ≡ sheet_by B (qs ++ rs) sheet)
  unfolding written_by sheet_by
  written-after_yes rs sheet e = (sym (checked-after Err _ qs rs e), sym (checked-after (λ _. sheet) _ qs rs e))

  -- the answer's refusal is the first no
  pub written_refusal : refusal_in (written_by B qs) ≡ first_no qs
  unfolding written_by
  written_refusal = answer_refusal _ qs

  pub written_said : (n : ℕ) → written_by B qs ≡ Ok n → (first_no qs ≡ none) × (n ≡ length (model_bytes B))
  unfolding written_by
  written_said n e = let u = answer_yes _ qs n e in (u.0, sym u.1)

-- ---- on bytes

module _ (b : List ℕ) (m p : ℕ) (sheet : List ℕ) where
  pub write_refused : (r : Refusal) → first_no (decide_questions b m p) ≡ some r → (Err r ≡ written_of b m p (length sheet)) × (sheet ≡ sheet_after b m p sheet)
  write_refused r e = written_no _ _ r sheet (first-some-append (decide_questions b m p) _ r e)

-- ---- the model's sheet

module _ (B : Book) where
  -- its counts
  abbrev pub model_shape : Shape
  model_shape = record { elements = length (survivors_of B); names = name_count B; roles = role_count B; individuals = individuals B }

  pub model_length : length (model_bytes B) ≡ end_at model_shape
  unfolding model_bytes
  model_length = length-sheet B.grading.steps (name_count B) (role_count B) (individuals B) (placed_types B (seats_of (placement B)))

  -- with the placement that was found
  pub model_bytes_lem : (p : List ℕ) → placement B ≡ some p
      → model_bytes B ≡ sheet_bytes B.grading.steps (name_count B) (role_count B) (individuals B) (placed_types B p)
  unfolding model_bytes
  model_bytes_lem p e =
      ap (λ (o : Option (List ℕ)). sheet_bytes B.grading.steps (name_count B) (role_count B) (individuals B) (placed_types B (seats_of o))) e

  module _ (w : Valid B) (holds : outcome B ≡ 1) where
    found : (p : List ℕ) × (placement B ≡ some p) × RuleModel B (placed_types B p) × MeetsClaims B (placed_types B p)
    found = let u = outcome_model B w holds in (u.0, u.1, u.2, u.3)

    -- the checks 13 to 15 say yes to it
    pub model_right : length (survivors_of B) ≤ 64 → SheetRight (model_bytes B) model_shape B.grading.steps (name_count B) (role_count B) (individuals B)
    model_right few =
        let u = found in
        subst (λ (l : List ℕ). SheetRight l model_shape B.grading.steps (name_count B) (role_count B) (individuals B)) (sym (model_bytes_lem u.0 u.1))
        (sheet-right B.grading.steps (name_count B) (role_count B) (individuals B) (placed_types B u.0) u.2.on_chain few)

    -- and it meets every rule, pair and claim
    pub model_meets : verdict_of B (sheet_of (model_bytes B)) ≡ Meets
    model_meets =
        let u = found in
        ap (λ (l : List ℕ). verdict_of B (sheet_of l)) (model_bytes_lem u.0 u.1) ∙ sheet_meets B (placed_types B u.0) w u.2 u.3

-- ---- by what deciding answers

module _ (b : List ℕ) (m p t : ℕ) where
  pub written_undecided : (r : Refusal) → decision_of b m p ≡ Err r → written_of b m p t ≡ Err r
  unfolding written_by
  written_undecided r e = checked-before Err _ (decide_questions b m p) _ r (decision-refused _ _ r e)

  module _ (d : Decision) (e : decision_of b m p ≡ Ok d) where
    -- the last three questions, of an outcome, a number of survivors and a length
    abbrev last : ℕ → ℕ → ℕ → List Question
    last o k l = ask refusal.Outcome (ℕ_discrete o 1) ∷ ask refusal.Survivors (dec_le k 64) ∷ ask refusal.SheetBuffer (dec_le l t) ∷ []

    abbrev end : ℕ
    end = end_at (record { elements = d.survivors; names = name_count (book_of b); roles = role_count (book_of b); individuals = individuals (book_of b) })

    said : (outcome_number d.outcome ≡ outcome (book_of b)) × (d.survivors ≡ length (survivors_of (book_of b)))
    said =
        let u = (decision_decided _ _ d e).1 in
        (ap (λ (a : Decision). outcome_number a.outcome) (sym u) ∙ numbered-outcome (book_of b), ap (λ (a : Decision). a.survivors) (sym u))

    length-is : length (model_bytes (book_of b)) ≡ end
    length-is = rw said.1 (model_length (book_of b))

    pub written_decided : refusal_in (written_of b m p t) ≡ first_no (last (outcome_number d.outcome) d.survivors end)
    written_decided =
        written_refusal _ _ ∙ first-none-append (decide_questions b m p) (model_questions (book_of b) t) (decision_decided _ _ d e).0
        ∙ ap (λ (l : ℕ). first_no (last (outcome (book_of b)) (length (survivors_of (book_of b))) l)) length-is
        ∙ sym (ap₂ (λ (o k : ℕ). first_no (last o k end)) said.0 said.1)

    pub written-length : (n : ℕ) → written_of b m p t ≡ Ok n → n ≡ end
    written-length n f = (written_said _ _ n f).1 ∙ length-is

-- ---- a sheet that was written

module _ (b : List ℕ) (m p : ℕ) (sheet : List ℕ) (n : ℕ) (e : written_of b m p (length sheet) ≡ Ok n) where
  none-says_no : (first_no (write_questions b m p (length sheet)) ≡ none) × (n ≡ length (model_bytes (book_of b)))
  none-says_no = written_said _ _ n e

  filled : sheet_after b m p sheet ≡ model_bytes (book_of b) ++ drop (length (model_bytes (book_of b))) sheet
  filled = sym (written_yes _ _ sheet none-says_no.0).1

  -- is the model's, n bytes long
  pub written_is : take n (sheet_after b m p sheet) ≡ model_bytes (book_of b)
  written_is = ap (take n) filled ∙ take_at (model_bytes (book_of b)) (drop (length (model_bytes (book_of b))) sheet) n (sym none-says_no.1)

  -- after every check said yes
  pub written_after : (first_no (book_questions b) ≡ none) × (outcome (book_of b) ≡ 1) × (length (survivors_of (book_of b)) ≤ 64)
  written_after =
      let q = first-both (decide_questions b m p) (model_questions (book_of b) (length sheet)) none-says_no.0 in
      let q17 = first-none refusal.Outcome (ℕ_discrete (outcome (book_of b)) 1) _ q.1 in
      let q18 = first-none refusal.Survivors (dec_le (length (survivors_of (book_of b))) 64) _ q17.1 in
      ((first-both (book_questions b) _ (first-both (candidate_questions b) _ q.0).0).0, q17.0, q18.0)

  -- the bytes past it are kept
  pub written-kept : drop n (sheet_after b m p sheet) ≡ drop n sheet
  written-kept =
      let u = none-says_no.1 in
      ap (drop n) filled ∙ drop_at (model_bytes (book_of b)) (drop (length (model_bytes (book_of b))) sheet) n (sym u) ∙ ap (λ (k : ℕ). drop k sheet) (sym u)

-- it stands for the interpretation that deciding leaves in marks and placement
pub written_stands : (b marks buffer sheet : List ℕ) (n : ℕ) → written_of b (length marks) (length buffer) (length sheet) ≡ Ok n
    → Agree (name_count (book_of b)) (role_count (book_of b)) (individuals (book_of b))
    (interpretation_in b (marks_after b (length buffer) marks) (placement_after b (length marks) buffer))
    (sheet_of (take n (sheet_after b (length marks) (length buffer) sheet)))
unfolding Accepts
written_stands b marks buffer sheet n e =
    let B = book_of b in
    let d = (first-both (decide_questions b (length marks) (length buffer)) (model_questions B (length sheet)) (none-says_no b (length marks) (length buffer) sheet n e).0).0 in
    let v = written_after b (length marks) (length buffer) sheet n e in
    let u = found B (accepts_valid b v.0) v.1 in
    rw (written_is b (length marks) (length buffer) sheet n e, model_bytes_lem B u.0 u.1, interpretation-is B _ d buffer u.0 u.1 marks)
    (sheet_reads B.grading.steps (name_count B) (role_count B) (individuals B) (placed_types B u.0))

-- ---- what code has: a shape's numbers, the listed types, the seats

module _ (B : Book) (p : Shape) (n : p.elements ≡ length (survivors_of B)) (a : p.names ≡ name_count B) (r : p.roles ≡ role_count B)
    (i : p.individuals ≡ individuals B) where
  pub end_model : end_at p ≡ length (model_bytes B)
  end_model = rw (n, a, r, i) (sym (model_length B))

-- the sheet that is written ends where the shape does
pub end_same : (N : ℕ) (lg : Logic) (s : List ℕ) (p : Shape) (types seats : List ℕ) → length types ≡ p.elements → length seats ≡ p.individuals
    → end_at (shape_for N p.names p.roles (length seats) (model_of lg s types seats)) ≡ end_at p
end_same N lg s p types seats e f = rw (e, f)

module _ (b : List ℕ) (s : Sections) (ok : Right b s) where
  -- the counts are small, so an index can say where the sheet ends
  pub shape-few : (p : Shape) → p.elements ≤ 64 → p.names ≡ name_count (book_of b) → p.roles ≡ role_count (book_of b)
      → p.individuals ≡ individuals (book_of b) → end_at p ≤ 33812
  shape-few p n a r i = few-end p n (omega (arith, right-names b s ok)) (omega (arith, right_roles b s ok)) (omega (arith, right-individuals b s ok))

  -- what is written by a logic that stands for the book's grading
  pub model_of_lem : (lg : Logic) → grading lg (terms_of (term_bytes b s)) ≡ (book_of b).grading → (terms types seats : List ℕ) (A R : ℕ) → terms ≡ term_bytes b s
      → types ≡ survivors_of (book_of b) → placement (book_of b) ≡ some seats → A ≡ name_count (book_of b) → R ≡ role_count (book_of b)
      → sheet_bytes s.steps A R (length seats) (model_of lg terms types seats) ≡ model_bytes (book_of b)
  model_of_lem lg z terms types seats A R t e f g h =
      let B = book_of b in
      rw (t, g, h, e, (placement-first B seats f).drawn.0, ← (right_counts b s ok).0)
      (ap (λ (G : Grading). sheet_bytes B.grading.steps (name_count B) (role_count B) (individuals B)
      (types_in G (survivors_of B) (λ j. index (survivors_of B) (seat seats j)))) z
      ∙ sym (model_bytes_lem B seats f))

-- the placement that deciding leaves in its buffer, where the outcome is 1
pub placement_there : (b marks buffer : List ℕ) → Decidable b (length marks) (length buffer) → outcome (book_of b) ≡ 1
    → placement (book_of b) ≡ some (placement_in (placement_after b (length marks) buffer) (individuals (book_of b)))
placement_there b marks buffer d e =
    let u = outcome-placed (book_of b) e in
    u.1.1 ∙ ap {B = Option (List ℕ)} some (sym (placement_reads (book_of b) _ d buffer u.1.0 u.1.1))

pub sheet-kept : (b : List ℕ) (m p : ℕ) (sheet : List ℕ) (r : Refusal) → written_of b m p (length sheet) ≡ Err r → sheet_after b m p sheet ≡ sheet
sheet-kept b m p sheet r e = sym (written_no _ _ r sheet (sym (written_refusal _ _) ∙ ap refusal_in e)).1
