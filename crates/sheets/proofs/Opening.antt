-- Laws of checking a sheet: which checks that were made give which answer, in their order, and what the answer says of the sheet.
-- Assumes nothing.
use mathlib.Core.Path.{◌≡◌, refl, subst, ◌∙◌}
use mathlib.Core.Option.{none, some}
use Rattle.std.specs.Prelude.{Result, Ok, Err}
use mathlib.Core.List.{List}
use Prim.Native.Nat.{ℕ, ◌*◌, ◌≤◌}
use native.Mathlib.Omega.{arith}
use lib.ListN.{length}
use Rattle.refusals.specs.Questions.{Question, first_no}
use Rattle.refusals.specs.declared.Refusal.{Refusal}
use Rattle.refusals.specs.declared.Refusal.TheVariants as refusal
use Rattle.refusals.proofs.Questions.{first_empty, first_yes, first_no_lem, first-none}
use Rattle.refusals.proofs.Answers.{checked-value, checked-refused, answer_no, answer_yes}
use Rattle.encoding.proofs.Stretches.{length-stretch}
use Rattle.shapes.specs.Layout.{shape_of, names_at, links_at, individuals_at, end_at, name_bytes, link_bytes, individual_bytes, HeadRight, SheetLaidOut, EntriesRight}
use Rattle.sheets.specs.Opening.{sheet_questions, SheetRight, sheet_opened}
use Rattle.shapes.specs.declared.Shape.{Shape}

-- ---- the answer, by the checks made so far

module _ (b : List ℕ) (N A R I : ℕ) where
  abbrev p : Shape
  p = shape_of b

  abbrev qs : List Question
  qs = sheet_questions b p N A R I

  pub sheet_13 : ¬ HeadRight b p N A R I → sheet_opened b N A R I ≡ Err refusal.SheetHead
  unfolding sheet_opened
  sheet_13 n = checked-refused Err _ qs _ (first_no_lem _ _ _ n)

  pub sheet_14 : HeadRight b p N A R I → ¬ SheetLaidOut b p → sheet_opened b N A R I ≡ Err refusal.SheetLayout
  unfolding sheet_opened
  sheet_14 h n = checked-refused Err _ qs _ (first_yes _ _ _ h ∙ first_no_lem _ _ _ n)

  pub sheet_15 : HeadRight b p N A R I → SheetLaidOut b p → ¬ EntriesRight b p N → sheet_opened b N A R I ≡ Err refusal.SheetEntries
  unfolding sheet_opened
  sheet_15 h l n = checked-refused Err _ qs _ (first_yes _ _ _ h ∙ first_yes _ _ _ l ∙ first_no_lem _ _ _ n)

  pub sheet-none : HeadRight b p N A R I → SheetLaidOut b p → EntriesRight b p N → sheet_opened b N A R I ≡ Ok p
  unfolding sheet_opened
  sheet-none h l e = checked-value Err _ qs (first_yes _ _ _ h ∙ first_yes _ _ _ l ∙ first_yes _ _ _ e ∙ first_empty)

  -- ---- what the answer says

  pub none_right : first_no qs ≡ none → SheetRight b p N A R I
  none_right h =
      let q13 = first-none _ _ _ h in
      let q14 = first-none _ _ _ q13.1 in
      let q15 = first-none _ _ _ q14.1 in
      record { shape_is = refl; head_right = q13.0; laid_out = q14.0; entries_right = q15.0 }

  pub opened_right : (q : Shape) → sheet_opened b N A R I ≡ Ok q → SheetRight b q N A R I
  unfolding sheet_opened
  opened_right q e =
      let u = answer_yes p qs q e in
      subst (λ (s : Shape). SheetRight b s N A R I) u.1 (none_right u.0)

  pub opened_refused : (r : Refusal) → sheet_opened b N A R I ≡ Err r → first_no qs ≡ some r
  unfolding sheet_opened
  opened_refused = answer_no p qs

-- ---- what later calls take from a sheet that is right

module _ (b : List ℕ) (p : Shape) (N A R I : ℕ) (ok : SheetRight b p N A R I) where
  pub right-none : first_no (sheet_questions b (shape_of b) N A R I) ≡ none
  right-none =
      subst (λ (s : Shape). first_no (sheet_questions b s N A R I) ≡ none) ok.shape_is
      (first_yes _ _ _ ok.head_right ∙ first_yes _ _ _ ok.laid_out ∙ first_yes _ _ _ ok.entries_right ∙ first_empty)

  -- the bodies follow one another up to the end
  pub bodies_ordered : (names_at ≤ links_at p) × (links_at p ≤ individuals_at p) × (individuals_at p ≤ end_at p) × (end_at p ≡ length b)
  bodies_ordered = (omega arith, omega arith, omega arith, omega arith)

  pub length-names : length (name_bytes b p) ≡ p.elements * p.names
  length-names = length-stretch b names_at (links_at p) (omega arith) ∙ omega arith

  pub length-links : length (link_bytes b p) ≡ p.roles * (p.elements * p.elements)
  length-links = length-stretch b (links_at p) (individuals_at p) (omega arith) ∙ omega arith

  pub length-individuals : length (individual_bytes b p) ≡ p.individuals
  length-individuals = length-stretch b (individuals_at p) (end_at p) (omega arith) ∙ omega arith
