-- The program's printout. Document 01, "The program's printout".
-- Assumes nothing.
use Rattle.std.specs.Prelude.{◌≡◌, refl, ℕ, ◌+◌, ◌*◌, length, Result}
use Rattle.std.proofs.Math.Path.{sym, ap}
use Rattle.std.proofs.Common.{ap₂, ◌∙◌}
use mathlib.Core.List.{List, [], ◌++◌, flat_map}
use Rattle.std.proofs.Math.Decide.{dec_lt}
use Rattle.chain.specs.Decisions.{says}
use Rattle.refusals.specs.Questions.{first_no}
use Rattle.chain.specs.Search.{first, rank}
use Rattle.chain.specs.Lists.{table, highest, from, keep, each?}
use Rattle.chain.specs.Digits.{digit}
use Rattle.encoding.specs.Words.{word_at}
use Rattle.semantics.specs.Terms.{value, deep}
use Rattle.semantics.specs.Books.{Book, individuals}
use Rattle.semantics.specs.Links.{link_between}
use Rattle.types.specs.Candidates.{bearer, opens?, places, home_as, home, place_number, candidates, grade_in}
use Rattle.sections.specs.Terms.{terms_right?, terms_of}
use Rattle.claims.specs.Rules.{rules_right?, rules_of}
use Rattle.claims.specs.Pairs.{pairs_right?, pairs_of}
use Rattle.claims.specs.Claims.{memberships_right?, links_right?, members_of, memberships_of, links_of}
use Rattle.grades.specs.Rows.{row_of}
use Rattle.heads.specs.Heads.{by_edition, length_right?, edition_right?, steps_right?, counts_right?}
use Rattle.layout.specs.Layout.{sections_of, laid_out?}
use Rattle.book.specs.Reading.{book_of}
use Rattle.counter.specs.Counting.{few_candidates?, candidate_questions}
use Rattle.elimination.specs.Survivors.{fits?, settle, survivors, survivors_of}
use Rattle.placement.specs.Dictionary.{try_each}
use Rattle.placement.specs.Outcome.{holds?, placement_among, placement, outcome}
use Rattle.printout.specs.Text.{bytes, spelled, decimal}
use Rattle.printout.specs.Lines.{labelled, newline, refused_line, outcome_line, spaced, type_line, type_lines, individual_line, individual_lines}
use Rattle.printout.specs.Printout.{decided_lines, printed_by, printout_of}
use Rattle.std.proofs.Math.Option.{Option, some}
use Rattle.std.proofs.Math.ListN.{get_or}
use Rattle.refusals.proofs.Questions.{first-both}
use Rattle.refusals.specs.Refusals.{number_of}
use Rattle.refusals.specs.declared.Refusal.{Refusal}
use Rattle.chain.proofs.Lists.{get_or-table}
use Rattle.elimination.specs.Marks.{Marked, marked?, marked}
use Rattle.decider.specs.Deciding.{decision_of, marks_after, placement_after, outcome_in, Decidable}
use Rattle.decisions.specs.Decided.{survivors_in}
use Rattle.decisions.specs.declared.Decision.{Decision}
use Rattle.marking.proofs.Marking as Marks
use Rattle.decider.proofs.Listed as Left
use Rattle.placement.proofs.Outcome as Outcome
use Rattle.printout.proofs.Whole.{types_blocks, whole-placed, whole_other}
use Rattle.demands.specs.Readings.{printed}

-- "The book (hex) .. prints exactly"
pub printed-book : printout_of (printed 2) ≡ bytes "outcome 1 survivors 1\ntype 1 grades 1 1\nindividual 0 type 1\n"
unfolding printout_of decided_lines outcome_line type_lines type_line individual_lines individual_line spaced labelled newline decimal spelled bytes flat_map dec_lt
    first_no says length_right? edition_right? steps_right? counts_right? laid_out? terms_right? rules_right? memberships_right? links_right? pairs_right? few_candidates?
    book_of by_edition sections_of word_at terms_of rules_of pairs_of memberships_of members_of links_of table outcome placement placement_among try_each holds? survivors
    settle fits? each? keep from candidates places grade_in value deep place_number home home_as bearer first opens? rank digit link_between individuals highest row_of
printed-book = refl

-- The program decides with a marks buffer in which no byte is 1 and a placement buffer that suffices, and prints from them in this order: the
-- outcome's line, a line for each candidate that is marked and, for outcome 1, a line for each individual by the placement's bytes. That is the
-- printout of the book.
module _ (b marks buffer : List ℕ) (d : Decidable b (length marks) (length buffer)) (clear : (c : ℕ) → ¬ Marked marks c) where
  abbrev B : Book
  B = book_of b

  abbrev answer : Result Decision Refusal
  answer = decision_of b (length marks) (length buffer)

  abbrev types : List ℕ
  types = marked (marks_after b (length buffer) marks) (length marks)

  -- what is printed before the individuals' lines l
  abbrev before : List ℕ → List ℕ
  before l = outcome_line (outcome_in answer) (survivors_in answer) ++ (type_lines (row_of B.grading) types ++ l)

  printout_is : decided_lines B ≡ printout_of b
  unfolding printout_of
  printout_is = sym (ap (λ (o : Option Refusal). printed_by o B) (first-both (candidate_questions b) _ d).0)

  types_are : types ≡ survivors_of B
  types_are = Marks.listed-all B _ marks d (Left.decidable_suffices b (length marks) (length buffer) d).marks_suffice clear

  before-is : (l : List ℕ) → before l ≡ outcome_line (outcome B) (length (survivors_of B)) ++ (type_lines (row_of B.grading) types ++ l)
  before-is l =
      ap₂ (λ (o n : ℕ). outcome_line o n ++ (type_lines (row_of B.grading) types ++ l)) (Left.outcome-is B _ d) (Left.survivors-is B _ d)

  pub printed-with-individuals : outcome_in answer ≡ 1
      → before (individual_lines (λ j. word_at (placement_after b (length marks) buffer) (2 * j)) (individuals B)) ≡ printout_of b
  unfolding marked
  printed-with-individuals e =
      let u = Outcome.outcome-placed B (sym (Left.outcome-is B _ d) ∙ e) in
      let p = u.1.0 in
      before-is _
      ∙ whole-placed B (marks_after b (length buffer) marks) (length marks) types_are (placement_after b (length marks) buffer) p
      (sym (Left.outcome-is B _ d) ∙ e) u.1.1 (λ j l.
      sym (get_or-table (λ j. word_at (placement_after b (length marks) buffer) (2 * j)) (individuals B) j 0 l)
      ∙ ap (λ (q : List ℕ). get_or q j 0) (Left.placement_reads B _ d buffer p u.1.1))
      ∙ printout_is

  pub printed_without : ¬ (outcome_in answer ≡ 1) → before [] ≡ printout_of b
  unfolding marked
  printed_without n =
      before-is [] ∙ whole_other B (marks_after b (length buffer) marks) (length marks) types_are (λ e. n (Left.outcome-is B _ d ∙ e)) ∙ printout_is

-- The types' lines are printed block by block: those of the candidates marked among m from a on, then those of n more.
pub types_in_blocks : (row : ℕ → List ℕ) (marks : List ℕ) (a m n : ℕ)
    → type_lines row (keep (marked? marks) (from a (m + n))) ≡ type_lines row (keep (marked? marks) (from a m)) ++ type_lines row (keep (marked? marks) (from (a + m) n))
types_in_blocks row marks = types_blocks row (marked? marks)

-- and of a book that is refused before that, the refusal's line
pub printed_refusal : (b : List ℕ) (r : Refusal) → first_no (candidate_questions b) ≡ some r → refused_line (number_of r) ≡ printout_of b
unfolding printout_of
printed_refusal b r e = sym (ap (λ (o : Option Refusal). printed_by o (book_of b)) e)
