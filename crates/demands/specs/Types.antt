-- "Types and links" of document 01, sentence by sentence, of an accepted book's bytes: what the candidates are, their grades and their links, and
-- that `counter::count`, `checker::grade` and `checker::link` answer so. Each theorem stands under the sentence that it says, and is proved by naming
-- a law.
-- Assumes nothing.
use Rattle.std.specs.Prelude.{◌≡◌, ◌↔◌, List, ℕ, ◌+◌, ◌-◌, ◌^◌, ◌≤◌, ◌<◌, min, max, length, Ok}
use Rattle.std.proofs.Math.Option.{none}
use Rattle.chain.specs.Digits.{digit}
use Rattle.chain.specs.Lists.{Mem}
use Rattle.refusals.specs.Questions.{first_no}
use Rattle.semantics.specs.Terms.{some, all}
use Rattle.semantics.specs.Roles.{Upward}
use Rattle.semantics.specs.Interpretations.{Grading, Interpretation, WellFormed}
use Rattle.semantics.specs.Table.{TermIs, Follows}
use Rattle.semantics.specs.Books.{Book, MeetsClaims}
use Rattle.semantics.proofs.Governs.{governs-upward}
use Rattle.types.specs.Candidates.{candidates, grade_in}
use Rattle.types.specs.Links.{link, own_bound, LeastOf}
use Rattle.types.proofs.Candidates as Candidates
use Rattle.types.proofs.Links as Links
use Rattle.book.specs.Reading.{book_of}
use Rattle.book.specs.Opening.{Accepts}
use Rattle.counter.specs.Counting.{candidate_questions, counted_of}
use Rattle.book.proofs.Reading.{accepts_valid}
use Rattle.elimination.specs.Survivors.{Sound}
use Rattle.elimination.proofs.Survivors as Survivors
use Rattle.placement.specs.Outcome.{Unmentioned, seated_as}
use Rattle.placement.proofs.Outcome as Outcome
use Rattle.asking.specs.Places.{PlaceAt, place_of}
use Rattle.asking.specs.Asking.{grade_questions, link_questions, grade_answer, link_answer}
use Rattle.asking.proofs.Asking as Asking
use Rattle.counter.proofs.Counting as Counting
use Rattle.asking.proofs.Places as Places
use Rattle.decider.specs.Deciding.{Decidable, marks_after, listed_by}
use Rattle.marking.proofs.Marking.{listed-are}

-- of an accepted book
module _ (b : List ℕ) (ok : Accepts b) where
  abbrev G : Grading
  G = (book_of b).grading

  abbrev N : ℕ
  N = G.steps

  w : WellFormed G
  w = (accepts_valid b ok).well_formed

  -- "A place is now a distinct name number, at its first term, or a quantified term." (document 02, P5). "With k places, candidates are 0 to
  -- (N+1)^k − 1"
  pub candidates-are : candidates G ≡ (N + 1) ^ place_of b (length G.terms)
  candidates-are = Places.candidates_by_places b ok

  -- "the grade of the i-th place in term order, i from 0, is digit i in base N+1, lowest first". "Candidate numbering follows the new places." (P5)
  pub places-are : (c i : ℕ) → i < length G.terms → PlaceAt b i → grade_in G c i ≡ digit (N + 1) (place_of b i) c
  places-are = Places.grade_by_places b ok

  -- "The other terms' grades follow.": by the rows of the table
  pub others_follow : Follows G (candidates G) (λ i c. grade_in G c i)
  others_follow = Candidates.grade_in-follows G w (candidates G)

  -- "No two candidates share a type"
  pub types_differ : (c d : ℕ) → c < candidates G → d < candidates G → ((i : ℕ) → i < length G.terms → grade_in G c i ≡ grade_in G d i) → c ≡ d
  types_differ = Candidates.grade_in_inj G w

  -- "The link between two candidates for a role is the greatest r at which, for each "all" term of that role, max(N − r, child in the second)
  -- is at least its grade in the first, and for each "some" term min(r, child in the second) is at most its grade in the first.": which is now the
  -- role's own bound
  pub own-bound-is-greatest : (r c d s : ℕ) → s ≤ N → (s ≤ own_bound G r c d)
      ↔ (((i x : ℕ) → TermIs G i (all r x) → grade_in G c i ≤ max (N - s) (grade_in G d x))
      × ((i x : ℕ) → TermIs G i (some r x) → min s (grade_in G d x) ≤ grade_in G c i))
  unfolding book_of
  own-bound-is-greatest r c d s h =
      let u = Links.bound-each G r c d w s h in (
        λ l. let e = u.0 l in (λ i x t. e.0 i t.0 x t.1, λ i x t. e.1 i t.0 x t.1),
        λ e. u.1 (λ i l x t. e.0 i x (l, t), λ i l x t. e.1 i x (l, t)),
      )

  pub own-bound-is_on_chain : (r c d : ℕ) → own_bound G r c d ≤ N
  own-bound-is_on_chain = Links.bound_le G

  -- "A link of two candidates is now the least of its own bound and those of all roles reachable upward" (document 02, P1)
  pub link-is_least : (r c d : ℕ) → LeastOf (Upward (book_of b).pairs r) (λ t. own_bound G t c d) (link G r c d)
  link-is_least r c d =
      let v = accepts_valid b ok in
      let reached = governs-upward G (book_of b).pairs v.pairs_in v.ranked in
      let m = Links.link-is_least G r c d w in record {
        none_less = λ t u. m.none_less t ((reached t r).1 u);
        one_of_them = let (t, g, e) = m.one_of_them in (t, (reached t r).0 g, e);
      }

  pub link-is_on_chain : (r c d : ℕ) → link G r c d ≤ N
  link-is_on_chain = Links.link_le G

-- and so the calls answer, where no question of theirs says no
module _ (b : List ℕ) where
  pub count_answers : first_no (candidate_questions b) ≡ none → counted_of b ≡ Ok (candidates (book_of b).grading)
  count_answers = Counting.counted_is _ _

  pub grade_answers : (c i : ℕ) → first_no (grade_questions b c i) ≡ none → grade_answer b c i ≡ Ok (grade_in (book_of b).grading c i)
  grade_answers c i = Asking.graded-is _ _

  pub link_answers : (r c d : ℕ) → first_no (link_questions b r c d) ≡ none → link_answer b r c d ≡ Ok (link (book_of b).grading r c d)
  link_answers r c d = Asking.graded-is _ _

-- "A set is sound when each member meets every rule and each of its quantified terms takes exactly its grade from some member through that link.
-- The survivors are the largest sound set: every sound set lies within it.": those whose types the marks list
module _ (b marks buffer : List ℕ) (d : Decidable b (length marks) (length buffer)) where
  abbrev B : Book
  B = book_of b

  abbrev listed : List ℕ
  listed = listed_by b (marks_after b (length buffer) marks)

  pub listed-are_sound : Sound B.grading B.rules (λ c. Mem c listed)
  listed-are_sound = rw (listed-are B _ marks d) (Survivors.survivors_sound B.grading B.rules)

  pub sound_sets_lie_within : (S : ℕ → Type 0) → Sound B.grading B.rules S → (c : ℕ) → S c → Mem c listed
  sound_sets_lie_within = rw (listed-are B _ marks d) (Survivors.survivors_largest B.grading B.rules)

-- "An individual below the highest that no claim mentions may go anywhere."
pub unmentioned_may_go_anywhere : (B : Book) (j : ℕ) → Unmentioned B j → (I : Interpretation) (at : ℕ → ℕ)
    → ((k : ℕ) → ¬ (k ≡ j) → at k ≡ I.element k) → MeetsClaims B I → MeetsClaims B (seated_as I at)
unmentioned_may_go_anywhere = Outcome.unmentioned_met
