-- The readings on file of document 01, on bytes: one theorem over the whole table, links and books; and three over readings of
-- document 02, P1, P2 and P5.
-- Assumes nothing.
use Rattle.std.specs.Prelude.{◌≡◌, refl, ℕ, ◌*◌, ◌≤◌, length, drop, Ok}
use Rattle.std.proofs.Common.{◌∙◌}
use Rattle.std.proofs.Math.Option.{none}
use mathlib.Core.List.{List, [], ◌∷◌, ◌++◌, flat_map}
use Rattle.chain.specs.Decisions.{says}
use Rattle.refusals.specs.Questions.{first_no}
use Rattle.chain.specs.Search.{first, rank}
use Rattle.chain.specs.Lists.{Each, table, highest, from, keep, each?, any?}
use Rattle.chain.specs.Digits.{digit}
use Rattle.chain.proofs.Lists.{each_mem, mem_each}
use Rattle.semantics.specs.Terms.{value, deep}
use Rattle.semantics.specs.Roles.{upward?, role_pairs, hierarchy}
use Rattle.semantics.specs.Books.{individuals}
use Rattle.types.specs.Candidates.{bearer, opens?, places, home_as, home, place_number, candidates, grade_in}
use Rattle.semantics.specs.Links.{link_between}
use Rattle.sections.specs.Terms.{terms_right?, terms_of}
use Rattle.claims.specs.Rules.{rules_right?, rules_of}
use Rattle.claims.specs.Pairs.{pairs_right?, pairs_of}
use Rattle.claims.specs.Claims.{memberships_right?, links_right?, members_of, memberships_of, links_of}
use Rattle.encoding.specs.Words.{word_at}
use Rattle.heads.specs.Heads.{by_edition, length_right?, edition_right?, steps_right?, counts_right?}
use Rattle.layout.specs.Layout.{sections_of, laid_out?}
use Rattle.book.specs.Reading.{book_of}
use Rattle.counter.specs.Counting.{few_candidates?, candidate_questions}
use Rattle.asking.specs.Asking.{graded_by, link_answer}
use Rattle.marking.specs.Marking.{marked_in}
use Rattle.decisions.specs.Decided.{outcome_number, decision, placed_in}
use Rattle.decisions.specs.declared.Decision.{Decision}
use Rattle.decider.specs.Deciding.{decision_of, marks_after, placement_after, Decidable}
use Rattle.decider.proofs.Deciding as Deciding
use Rattle.marking.proofs.Marking as Marks
use Rattle.decider.proofs.Listed as Left
use Rattle.elimination.specs.Marks.{marks_of}
use Rattle.elimination.specs.Survivors.{fits?, settle, survivors}
use Rattle.placement.specs.Dictionary.{try_each}
use Rattle.placement.specs.Outcome.{holds?, placement_among, placement, outcome}

-- a reading, of a book's bytes
pub data Reading : Type 0 where
  -- for role 0 the link from the one candidate to the other
  link_reading : (bytes : List ℕ) (source target link : ℕ) → Reading
  -- the outcome, the number of survivors, the mark bytes and the placement's bytes
  book_reading : (bytes : List ℕ) (outcome survivors : ℕ) (marks placement : List ℕ) → Reading

-- what it says: that `checker::link` answers so; that deciding answers so and leaves so, with buffers that suffice, whatever they hold, and keeps
-- the bytes past what it sets
abbrev pub Reads : Reading → Type 0
Reads (link_reading b c d l) = link_answer b 0 c d ≡ Ok l
Reads (book_reading b o k ms ps) =
    (marks buffer : List ℕ) → length ms ≤ length marks → 16 ≤ length buffer
    → ((d : Decision) × (decision_of b (length marks) (length buffer) ≡ Ok d) × (outcome_number d.outcome ≡ o) × (d.survivors ≡ k))
    × (marks_after b (length buffer) marks ≡ ms ++ drop (length ms) marks)
    × (placement_after b (length marks) buffer ≡ ps ++ drop (length ps) buffer)

-- ---- the books

-- on 4 steps a name A, and a term over A of the kind "some" (4) or "all" (5), for role 0
abbrev quantified : ℕ → List ℕ
quantified kind =
    0x01 ∷ 0x04 ∷ 0x00 ∷ 0x12 ∷ 0x00 ∷ 0x02 ∷ 0x00 ∷ 0x18 ∷ 0x00 ∷ 0x00 ∷ 0x00 ∷ 0x18 ∷ 0x00 ∷ 0x00 ∷ 0x00 ∷ 0x18 ∷ 0x00 ∷ 0x00
    ∷ 0x00 ∷ 0x00 ∷ 0x00 ∷ kind ∷ 0x00 ∷ 0x00 ∷ []

-- the term graded g in the first candidate, A graded x in the second
abbrev linked : (kind g x link : ℕ) → Reading
linked kind g x l = link_reading (quantified kind) (5 * g) x l

-- the printed book, on N steps: A and "not A" each not greater than the other, A at least 1
abbrev pub printed : ℕ → List ℕ
printed N =
    0x01 ∷ N ∷ 0x00 ∷ 0x12 ∷ 0x00 ∷ 0x02 ∷ 0x00 ∷ 0x18 ∷ 0x00 ∷ 0x02 ∷ 0x00 ∷ 0x1c ∷ 0x00 ∷ 0x01 ∷ 0x00 ∷ 0x20 ∷ 0x00 ∷ 0x00
    ∷ 0x00 ∷ 0x00 ∷ 0x00 ∷ 0x01 ∷ 0x00 ∷ 0x00
    ∷ 0x00 ∷ 0x01 ∷ 0x01 ∷ 0x00
    ∷ 0x00 ∷ 0x00 ∷ 0x00 ∷ 0x01 ∷ []

-- no terms or claims, N 1
abbrev pub nothing : List ℕ
nothing =
    0x01 ∷ 0x01 ∷ 0x00 ∷ 0x12 ∷ 0x00 ∷ 0x00 ∷ 0x00 ∷ 0x12 ∷ 0x00 ∷ 0x00 ∷ 0x00 ∷ 0x12 ∷ 0x00 ∷ 0x00 ∷ 0x00 ∷ 0x12 ∷ 0x00 ∷ 0x00 ∷ []

-- A not greater than "some r0 A", claim A at least 1, N 1
abbrev pub under_some : List ℕ
under_some =
    0x01 ∷ 0x01 ∷ 0x00 ∷ 0x12 ∷ 0x00 ∷ 0x02 ∷ 0x00 ∷ 0x18 ∷ 0x00 ∷ 0x01 ∷ 0x00 ∷ 0x1a ∷ 0x00 ∷ 0x01 ∷ 0x00 ∷ 0x1e ∷ 0x00 ∷ 0x00
    ∷ 0x00 ∷ 0x00 ∷ 0x00 ∷ 0x04 ∷ 0x00 ∷ 0x00
    ∷ 0x00 ∷ 0x01
    ∷ 0x00 ∷ 0x00 ∷ 0x00 ∷ 0x01 ∷ []

-- "some r0 bottom" at least 1, N 1
abbrev pub some_bottom : List ℕ
some_bottom =
    0x01 ∷ 0x01 ∷ 0x00 ∷ 0x12 ∷ 0x00 ∷ 0x02 ∷ 0x00 ∷ 0x18 ∷ 0x00 ∷ 0x00 ∷ 0x00 ∷ 0x18 ∷ 0x00 ∷ 0x01 ∷ 0x00 ∷ 0x1c ∷ 0x00 ∷ 0x00
    ∷ 0x07 ∷ 0x00 ∷ 0x00 ∷ 0x04 ∷ 0x00 ∷ 0x00
    ∷ 0x00 ∷ 0x01 ∷ 0x00 ∷ 0x01 ∷ []

-- A and "not A" both at least 1, on N steps
abbrev both : ℕ → List ℕ
both N =
    0x01 ∷ N ∷ 0x00 ∷ 0x12 ∷ 0x00 ∷ 0x02 ∷ 0x00 ∷ 0x18 ∷ 0x00 ∷ 0x00 ∷ 0x00 ∷ 0x18 ∷ 0x00 ∷ 0x02 ∷ 0x00 ∷ 0x20 ∷ 0x00 ∷ 0x00
    ∷ 0x00 ∷ 0x00 ∷ 0x00 ∷ 0x01 ∷ 0x00 ∷ 0x00
    ∷ 0x00 ∷ 0x00 ∷ 0x00 ∷ 0x01 ∷ 0x00 ∷ 0x01 ∷ 0x00 ∷ 0x01 ∷ []

-- N 2, link of 0 to itself at least 2, "all r0 A" at least 2, A at most g
abbrev loop : ℕ → List ℕ
loop g =
    0x01 ∷ 0x02 ∷ 0x00 ∷ 0x12 ∷ 0x00 ∷ 0x02 ∷ 0x00 ∷ 0x18 ∷ 0x00 ∷ 0x00 ∷ 0x00 ∷ 0x18 ∷ 0x00 ∷ 0x02 ∷ 0x00 ∷ 0x20 ∷ 0x00 ∷ 0x01
    ∷ 0x00 ∷ 0x00 ∷ 0x00 ∷ 0x05 ∷ 0x00 ∷ 0x00
    ∷ 0x00 ∷ 0x01 ∷ 0x00 ∷ 0x02 ∷ 0x00 ∷ 0x00 ∷ 0x01 ∷ g
    ∷ 0x00 ∷ 0x00 ∷ 0x00 ∷ 0x02 ∷ []

-- ---- the readings

-- all of nine candidates are marked
abbrev nine : List ℕ
nine = 1 ∷ 1 ∷ 1 ∷ 1 ∷ 1 ∷ 1 ∷ 1 ∷ 1 ∷ 1 ∷ []

abbrev pub readings : List Reading
readings =
    -- "all" graded 3, child 1, N 4: link 1. Child 3: link 4.
    linked 5 3 1 1 ∷ linked 5 3 3 4
    -- "some" graded 1, child 3, N 4: link 1. Graded 2, child 2: link 4.
    ∷ linked 4 1 3 1 ∷ linked 4 2 2 4
    -- The printed book. The same with N 1: outcome 3.
    ∷ book_reading (printed 2) 1 1 (0 ∷ 1 ∷ 0 ∷ []) (0 ∷ 1 ∷ []) ∷ book_reading (printed 1) 3 0 (0 ∷ 0 ∷ []) []
    -- No terms or claims, N 1: one survivor, outcome 1.
    ∷ book_reading nothing 1 1 (1 ∷ []) []
    -- survivors 0, 2, 3, placed at 3
    ∷ book_reading under_some 1 3 (1 ∷ 0 ∷ 1 ∷ 1 ∷ []) (0 ∷ 3 ∷ [])
    -- outcome 2, one survivor
    ∷ book_reading some_bottom 2 1 (1 ∷ 0 ∷ []) []
    -- and of those without a star: N 2 gives outcome 1, N 1 outcome 2
    ∷ book_reading (both 2) 1 3 (1 ∷ 1 ∷ 1 ∷ []) (0 ∷ 1 ∷ []) ∷ book_reading (both 1) 2 2 (1 ∷ 1 ∷ []) []
    -- A at most 1: outcome 2; at most 2: outcome 1
    ∷ book_reading (loop 1) 2 9 nine [] ∷ book_reading (loop 2) 1 9 nine (0 ∷ 8 ∷ []) ∷ []

-- ---- readings of document 02, P1, of our own

-- Edition 2, N 1: a name A and "all r1 A". Individual 0 has "all r1 A" at least 1 and a link of role 0, at least 1, to individual 1, which has A at
-- most 0. With n pairs, which these bytes are.
abbrev harness : (n : ℕ) → List ℕ → List ℕ
harness n ps =
    0x02 ∷ 0x01 ∷ 0x00 ∷ 0x16 ∷ 0x00 ∷ 0x02 ∷ 0x00 ∷ 0x1c ∷ 0x00 ∷ 0x00 ∷ 0x00 ∷ 0x1c ∷ 0x00 ∷ 0x02 ∷ 0x00 ∷ 0x24 ∷ 0x00 ∷ 0x01 ∷ 0x00 ∷ 0x28 ∷ 0x00 ∷ n
    ∷ 0x00 ∷ 0x00 ∷ 0x00 ∷ 0x05 ∷ 0x01 ∷ 0x00
    ∷ 0x00 ∷ 0x01 ∷ 0x00 ∷ 0x01 ∷ 0x01 ∷ 0x00 ∷ 0x01 ∷ 0x00
    ∷ 0x00 ∷ 0x00 ∷ 0x01 ∷ 0x01
    ∷ ps

-- all four candidates survive; the individuals sit at candidates 2 and 0, or nowhere
abbrev seated : (n : ℕ) → List ℕ → Reading
seated n ps = book_reading (harness n ps) 1 4 (1 ∷ 1 ∷ 1 ∷ 1 ∷ []) (0 ∷ 2 ∷ 0 ∷ 0 ∷ [])

abbrev unseated : (n : ℕ) → List ℕ → Reading
unseated n ps = book_reading (harness n ps) 2 4 (1 ∷ 1 ∷ 1 ∷ 1 ∷ []) []

abbrev pub ranked_readings : List Reading
ranked_readings =
    -- no pairs, and a role under itself: the link claim is on another role than the "all"
    seated 0 [] ∷ seated 1 (0 ∷ 0 ∷ [])
    -- a link claim on the lower role is seen by an "all" on the upper, and not the other way round
    ∷ unseated 1 (0 ∷ 1 ∷ []) ∷ seated 1 (1 ∷ 0 ∷ [])
    -- through a role that no term uses, and in a circle of three
    ∷ unseated 2 (0 ∷ 2 ∷ 2 ∷ 1 ∷ []) ∷ unseated 3 (0 ∷ 2 ∷ 2 ∷ 1 ∷ 1 ∷ 0 ∷ []) ∷ []

-- ---- readings of document 02, P2, of our own

-- N 1, a name A: two membership claims about it, of these bytes but for the term
abbrev batch : (first sense grade first' sense' grade' : ℕ) → List ℕ
batch x k g x' k' g' =
    0x01 ∷ 0x01 ∷ 0x00 ∷ 0x12 ∷ 0x00 ∷ 0x01 ∷ 0x00 ∷ 0x15 ∷ 0x00 ∷ 0x00 ∷ 0x00 ∷ 0x15 ∷ 0x00 ∷ 0x02 ∷ 0x00 ∷ 0x1d ∷ 0x00 ∷ 0x00
    ∷ 0x00 ∷ 0x00 ∷ 0x00
    ∷ x ∷ 0x00 ∷ k ∷ g ∷ x' ∷ 0x00 ∷ k' ∷ g' ∷ []

abbrev pub set_readings : List Reading
set_readings =
    -- A at least 1 for {0, 2}, and at most 0 for 1: the individuals sit at 1, 0, 1
    book_reading (batch 0x05 2 1 0x01 1 0) 1 2 (1 ∷ 1 ∷ []) (0 ∷ 1 ∷ 0 ∷ 0 ∷ 0 ∷ 1 ∷ [])
    -- at most 0 for 2: one member is enough
    ∷ book_reading (batch 0x05 2 1 0x02 1 0) 2 2 (1 ∷ 1 ∷ []) []
    -- at most 0 for {0, 1} and at least 1 for {2}
    ∷ book_reading (batch 0x03 3 0 0x04 2 1) 1 2 (1 ∷ 1 ∷ []) (0 ∷ 0 ∷ 0 ∷ 0 ∷ 0 ∷ 1 ∷ [])
    -- empty sets claim nothing, not even at most 0 and at least 1, and there is no individual
    ∷ book_reading (batch 0x00 3 0 0x00 2 1) 1 2 (1 ∷ 1 ∷ []) [] ∷ []

-- ---- readings of document 02, P5, of our own

-- "A not greater than "some r0 A", claim A at least 1, N 1", with A in terms 0 and 2: the "some" goes by the one, rule and claim by the other
abbrev pasted : List ℕ
pasted =
    0x01 ∷ 0x01 ∷ 0x00 ∷ 0x12 ∷ 0x00 ∷ 0x03 ∷ 0x00 ∷ 0x1b ∷ 0x00 ∷ 0x01 ∷ 0x00 ∷ 0x1d ∷ 0x00 ∷ 0x01 ∷ 0x00 ∷ 0x21 ∷ 0x00 ∷ 0x00
    ∷ 0x00 ∷ 0x00 ∷ 0x00 ∷ 0x04 ∷ 0x00 ∷ 0x00 ∷ 0x00 ∷ 0x00 ∷ 0x00
    ∷ 0x02 ∷ 0x01
    ∷ 0x00 ∷ 0x02 ∷ 0x00 ∷ 0x01 ∷ []

-- N 1: A, B and A again; A at least 1, by its second term, and B at most 0
abbrev between : List ℕ
between =
    0x01 ∷ 0x01 ∷ 0x00 ∷ 0x12 ∷ 0x00 ∷ 0x03 ∷ 0x00 ∷ 0x1b ∷ 0x00 ∷ 0x00 ∷ 0x00 ∷ 0x1b ∷ 0x00 ∷ 0x02 ∷ 0x00 ∷ 0x23 ∷ 0x00 ∷ 0x00
    ∷ 0x00 ∷ 0x00 ∷ 0x00 ∷ 0x00 ∷ 0x01 ∷ 0x00 ∷ 0x00 ∷ 0x00 ∷ 0x00
    ∷ 0x00 ∷ 0x02 ∷ 0x00 ∷ 0x01 ∷ 0x00 ∷ 0x01 ∷ 0x01 ∷ 0x00 ∷ []

-- N 1: A in two terms, at least 1 by the one and at most 0 by the other
abbrev clashing : List ℕ
clashing =
    0x01 ∷ 0x01 ∷ 0x00 ∷ 0x12 ∷ 0x00 ∷ 0x02 ∷ 0x00 ∷ 0x18 ∷ 0x00 ∷ 0x00 ∷ 0x00 ∷ 0x18 ∷ 0x00 ∷ 0x02 ∷ 0x00 ∷ 0x20 ∷ 0x00 ∷ 0x00
    ∷ 0x00 ∷ 0x00 ∷ 0x00 ∷ 0x00 ∷ 0x00 ∷ 0x00
    ∷ 0x00 ∷ 0x00 ∷ 0x00 ∷ 0x01 ∷ 0x00 ∷ 0x01 ∷ 0x01 ∷ 0x00 ∷ []

-- N 1: top, "some r0 top", A and A again, at least 1 by its second term
abbrev behind : List ℕ
behind =
    0x01 ∷ 0x01 ∷ 0x00 ∷ 0x12 ∷ 0x00 ∷ 0x04 ∷ 0x00 ∷ 0x1e ∷ 0x00 ∷ 0x00 ∷ 0x00 ∷ 0x1e ∷ 0x00 ∷ 0x01 ∷ 0x00 ∷ 0x22 ∷ 0x00 ∷ 0x00
    ∷ 0x06 ∷ 0x00 ∷ 0x00 ∷ 0x04 ∷ 0x00 ∷ 0x00 ∷ 0x00 ∷ 0x00 ∷ 0x00 ∷ 0x00 ∷ 0x00 ∷ 0x00
    ∷ 0x00 ∷ 0x03 ∷ 0x00 ∷ 0x01 ∷ []

abbrev pub name_readings : List Reading
name_readings =
    -- as the reading without the repeat: survivors 0, 2, 3, placed at 3
    book_reading pasted 1 3 (1 ∷ 0 ∷ 1 ∷ 1 ∷ []) (0 ∷ 3 ∷ [])
    -- A is digit 0, B digit 1, and the second A opens no place: four candidates, placed at 1
    ∷ book_reading between 1 4 (1 ∷ 1 ∷ 1 ∷ 1 ∷ []) (0 ∷ 1 ∷ [])
    -- one name has one grade: no type has both
    ∷ book_reading clashing 2 2 (1 ∷ 1 ∷ []) []
    -- "some" is digit 0, A digit 1: placed at 2
    ∷ book_reading behind 1 4 (1 ∷ 1 ∷ 1 ∷ 1 ∷ []) (0 ∷ 2 ∷ []) ∷ []
