-- The readings hold: each is worked out from the definitions, which compute. Statements on `readings`, `ranked_readings`, `set_readings` and
-- `name_readings` of specs/Readings.
-- Assumes nothing.
use Rattle.std.specs.Prelude.{◌≡◌, refl, ℕ, ◌*◌, ◌≤◌, length, drop, Ok}
use Rattle.std.proofs.Common.{ap, ◌∙◌}
use Rattle.std.proofs.Math.Option.{none}
use mathlib.Core.List.{List, [], ◌∷◌, ◌++◌, flat_map}
use native.Mathlib.Decide.{ℕ_discrete}
use Rattle.chain.specs.Decisions.{says}
use Rattle.refusals.specs.Questions.{first_no}
use Rattle.chain.specs.Search.{first, rank}
use Rattle.chain.specs.Lists.{Each, table, highest, from, keep, each?, any?}
use Rattle.chain.specs.Digits.{digit}
use Rattle.chain.proofs.Lists.{each_mem, mem_each}
use Rattle.semantics.specs.Terms.{value, deep}
use Rattle.semantics.specs.Roles.{upward?, role_pairs, hierarchy}
use Rattle.semantics.specs.Books.{individuals}
use Rattle.types.specs.Candidates.{bearer, opens?, places, home_as, home, place_number, candidates, grade_in}
use Rattle.semantics.specs.Links.{link_between}
use Rattle.sections.specs.Terms.{terms_right?, terms_of}
use Rattle.claims.specs.Rules.{rules_right?, rules_of}
use Rattle.claims.specs.Pairs.{pairs_right?, pairs_of}
use Rattle.claims.specs.Claims.{memberships_right?, links_right?, members_of, memberships_of, links_of}
use Rattle.encoding.specs.Words.{word_at}
use Rattle.heads.specs.Heads.{by_edition, length_right?, edition_right?, steps_right?, counts_right?}
use Rattle.layout.specs.Layout.{sections_of, laid_out?}
use Rattle.book.specs.Reading.{book_of}
use Rattle.counter.specs.Counting.{few_candidates?, candidate_questions}
use Rattle.asking.specs.Asking.{graded_by, link_answer}
use Rattle.marking.specs.Marking.{marked_in}
use Rattle.decisions.specs.Decided.{outcome_number, outcome_numbered, decision, placed_in}
use Rattle.decider.specs.Deciding.{decision_of, marks_after, placement_after, Decidable}
use Rattle.decider.proofs.Deciding as Deciding
use Rattle.marking.proofs.Marking as Marks
use Rattle.decider.proofs.Listed as Left
use Rattle.elimination.specs.Marks.{marks_of}
use Rattle.elimination.specs.Survivors.{fits?, settle, survivors}
use Rattle.placement.specs.Dictionary.{try_each}
use Rattle.placement.specs.Outcome.{holds?, placement_among, placement, outcome}
use Rattle.demands.specs.Readings.{Reading, link_reading, book_reading, Reads, readings, ranked_readings, set_readings, name_readings}

-- what it comes to in the definitions, which compute
abbrev Computes : Reading → Type 0
Computes (link_reading b c d l) = link_answer b 0 c d ≡ Ok l
Computes (book_reading b o k ms ps) =
    (first_no (candidate_questions b) ≡ none) × (candidates (book_of b).grading ≡ length ms) × (decision (book_of b) ≡ record { outcome = outcome_numbered o; survivors = k })
    × (outcome_number (outcome_numbered o) ≡ o)
    × ((marks : List ℕ) → marked_in (book_of b) marks ≡ ms ++ drop (length ms) marks)
    × ((buffer : List ℕ) → placed_in (placement (book_of b)) buffer ≡ ps ++ drop (length ps) buffer)

computed : (q : Reading) → Computes q → Reads q
computed (link_reading b c d l) e = e
computed (book_reading b o k ms ps) (asked, count, answer, number, marks-are, placement-is) = λ marks buffer h g.
    let d : Decidable b (length marks) (length buffer) = Deciding.decide_none b (length marks) (length buffer) asked (rw count h) g in
    ((_, Left.decided_is (book_of b) _ d ∙ ap Ok answer, number, refl), Marks.marks-are (book_of b) _ marks d ∙ marks-are marks, Left.placement-is (book_of b) _ d buffer ∙ placement-is buffer)

computing : Each Computes readings
unfolding graded_by first_no says length_right? edition_right? steps_right? counts_right? laid_out? terms_right? rules_right? memberships_right? links_right? pairs_right? few_candidates?
    book_of by_edition sections_of word_at terms_of rules_of pairs_of memberships_of members_of links_of table outcome placement placement_among individuals highest try_each holds? survivors
    settle fits? from keep each? any? marks_of candidates places link_between grade_in value deep place_number home home_as bearer first opens? rank digit flat_map ℕ_discrete
computing = (
  refl,
  (
    refl,
    (
      refl,
      (
        refl,
        (
          (refl, refl, refl, refl, λ _. refl, λ _. refl),
          (
            (refl, refl, refl, refl, λ _. refl, λ _. refl),
            (
              (refl, refl, refl, refl, λ _. refl, λ _. refl),
              (
                (refl, refl, refl, refl, λ _. refl, λ _. refl),
                (
                  (refl, refl, refl, refl, λ _. refl, λ _. refl),
                  (
                    (refl, refl, refl, refl, λ _. refl, λ _. refl),
                    ((refl, refl, refl, refl, λ _. refl, λ _. refl), ((refl, refl, refl, refl, λ _. refl, λ _. refl), ((refl, refl, refl, refl, λ _. refl, λ _. refl), tt))),
                  ),
                ),
              ),
            ),
          ),
        ),
      ),
    ),
  ),
)

-- every reading is as document 01 has it
pub readings_on_file : Each Reads readings
readings_on_file = mem_each {P = Reads} readings (λ q m. computed q (each_mem Computes readings computing q m))

ranked_computing : Each Computes ranked_readings
unfolding first_no says length_right? edition_right? steps_right? counts_right? laid_out? terms_right? rules_right? memberships_right? links_right? pairs_right? few_candidates?
    book_of by_edition sections_of word_at terms_of rules_of pairs_of memberships_of members_of links_of table outcome placement placement_among individuals highest try_each holds? survivors
    settle fits? from keep each? any? marks_of candidates places link_between grade_in value deep place_number home home_as bearer first opens? rank digit flat_map ℕ_discrete
    hierarchy role_pairs upward?
ranked_computing = (
  (refl, refl, refl, refl, λ _. refl, λ _. refl),
  (
    (refl, refl, refl, refl, λ _. refl, λ _. refl),
    (
      (refl, refl, refl, refl, λ _. refl, λ _. refl),
      (
        (refl, refl, refl, refl, λ _. refl, λ _. refl),
        ((refl, refl, refl, refl, λ _. refl, λ _. refl), ((refl, refl, refl, refl, λ _. refl, λ _. refl), tt)),
      ),
    ),
  ),
)

pub readings_of_pairs : Each Reads ranked_readings
readings_of_pairs = mem_each {P = Reads} ranked_readings (λ q m. computed q (each_mem Computes ranked_readings ranked_computing q m))

set_computing : Each Computes set_readings
unfolding first_no says length_right? edition_right? steps_right? counts_right? laid_out? terms_right? rules_right? memberships_right? links_right? pairs_right? few_candidates?
    book_of by_edition sections_of word_at terms_of rules_of pairs_of memberships_of members_of links_of table outcome placement placement_among individuals highest try_each holds? survivors
    settle fits? from keep each? any? marks_of candidates places link_between grade_in value deep place_number home home_as bearer first opens? rank digit flat_map ℕ_discrete
set_computing = (
  (refl, refl, refl, refl, λ _. refl, λ _. refl),
  ((refl, refl, refl, refl, λ _. refl, λ _. refl), ((refl, refl, refl, refl, λ _. refl, λ _. refl), ((refl, refl, refl, refl, λ _. refl, λ _. refl), tt))),
)

pub readings_of_sets : Each Reads set_readings
readings_of_sets = mem_each {P = Reads} set_readings (λ q m. computed q (each_mem Computes set_readings set_computing q m))

name_computing : Each Computes name_readings
unfolding first_no says length_right? edition_right? steps_right? counts_right? laid_out? terms_right? rules_right? memberships_right? links_right? pairs_right? few_candidates?
    book_of by_edition sections_of word_at terms_of rules_of pairs_of memberships_of members_of links_of table outcome placement placement_among individuals highest try_each holds? survivors
    settle fits? from keep each? any? marks_of candidates places link_between grade_in value deep place_number home home_as bearer first opens? rank digit flat_map ℕ_discrete
name_computing = (
  (refl, refl, refl, refl, λ _. refl, λ _. refl),
  ((refl, refl, refl, refl, λ _. refl, λ _. refl), ((refl, refl, refl, refl, λ _. refl, λ _. refl), ((refl, refl, refl, refl, λ _. refl, λ _. refl), tt))),
)

pub readings_of_names : Each Reads name_readings
readings_of_names = mem_each {P = Reads} name_readings (λ q m. computed q (each_mem Computes name_readings name_computing q m))
