-- Document 02, P5, "A name may recur", sentence by sentence, of a book's bytes. Which candidates there are and whose grade each digit is stands in Types,
-- where P5's places take the place of document 01's; that no two candidates share a type stands there too, and holds as it did.
-- Assumes nothing.
use Rattle.std.specs.Prelude.{◌≡◌, ◌↔◌, List, [], ◌∷◌, ◌++◌, ℕ, ◌+◌, ◌<◌, length, get_or}
use Rattle.std.proofs.Common.{sym, ap₂, subst, ◌∙◌}
use Rattle.std.proofs.Math.Option.{none}
use Rattle.refusals.specs.Questions.{first_no}
use Rattle.semantics.specs.Terms.{Term, name, term}
use Rattle.semantics.specs.Interpretations.{Grading}
use Rattle.semantics.specs.Books.{Book}
use Rattle.types.specs.Candidates.{grade_in}
use Rattle.types.specs.Sharing.{shared_number, shared_terms, shared}
use Rattle.types.proofs.Sharing as Sharing
use Rattle.sections.specs.Terms.{kind_at, a_at, b_at, term_count, Described, SameName, TermsRight}
use Rattle.heads.specs.Heads.{steps, LengthRight, EditionRight, CountsRight}
use Rattle.layout.specs.Layout.{sections_of, LaidOut, term_bytes, rule_bytes, membership_bytes, link_bytes, pair_bytes}
use Rattle.book.specs.Reading.{book_of}
use Rattle.book.specs.Opening.{Accepts}
use Rattle.elimination.specs.Listed.{types_in}
use Rattle.asking.specs.Places.{terms, PlaceAt, place_of, Bears, names_in, quantified_in}
use Rattle.decider.specs.Deciding.{decision_of, marks_after, placement_after}
use Rattle.implied.specs.Implying.{implied_questions}
use Rattle.book.proofs.Reading.{accepts_valid}
use Rattle.book_bytes.proofs.Repeats as Read
use Rattle.asking.proofs.Places as Places
use Rattle.decider.proofs.Alike as Alike
use Rattle.implied.proofs.Implying as Implying
use Rattle.implied.proofs.Alike as Tables
use Rattle.demands.specs.Implied.{byte}

-- ---- "Check 6 no longer objects."

-- it asks of each term by itself whether it is as described,
pub check_6_asks_of_each : (s : List ℕ) → TermsRight s ↔ ((i : ℕ) → i < term_count s → Described i (kind_at s i) (a_at s i) (b_at s i))
check_6_asks_of_each s = (λ h. h, λ h. h)

-- and of a name only that its number is 0 to 15, and the byte after it 0
pub check_6_of_a_name : (i a z : ℕ) → Described i 0 a z ↔ ((a < 16) × (z < 1))
check_6_of_a_name i a z = (λ h. h, λ h. h)

module _ (b : List ℕ) (ok : Accepts b) where
  abbrev G : Grading
  G = (book_of b).grading

  -- ---- "A place is now a distinct name number, at its first term, or a quantified term."

  -- there are as many as distinct name numbers and quantified terms,
  pub places-are-counted : place_of b (length G.terms) ≡ names_in b + quantified_in b
  places-are-counted = Places.places-counted b ok

  -- and each of the numbers below is that of one
  pub each-number-is_a_places : (s : ℕ) → s < place_of b (length G.terms) → (i : ℕ) × (i < length G.terms) × PlaceAt b i × (place_of b i ≡ s)
  each-number-is_a_places = Places.place-numbered b ok

  -- ---- "The grades of all terms with one name agree in every type."
  pub one_name_one_grade : (c i j : ℕ) → i < length G.terms → j < length G.terms → SameName (terms b) i j → grade_in G c i ≡ grade_in G c j
  one_name_one_grade = Places.one_name b ok

  -- and so "its names graded as in the type" says one thing: in the interpretation of listed types a name has, at each type's element, the grade that any
  -- term with the name has in the type
  pub names-graded_as_in_the_type : (xs : List ℕ) (seat : ℕ → ℕ) (e i : ℕ) → i < length G.terms → kind_at (terms b) i ≡ 0
      → (types_in G xs seat).names (a_at (terms b) i) e ≡ grade_in G (get_or xs e 0) i
  names-graded_as_in_the_type xs seat e i l k = sym (Places.grade_by_bearer b ok (get_or xs e 0) i l k)

-- and in the table of implied rules, where no check says no, such terms have one row and one column
module _ (b marks table : List ℕ) (fine : first_no (implied_questions b (length marks) (length table)) ≡ none) (i j : ℕ) (same : SameName (terms b) i j) where
  abbrev width : ℕ
  width = length (book_of b).grading.terms

  ok : Accepts b
  ok = (Implying.implied_suffices b (length marks) (length table) fine).0

  pub one_name_one_row : i < width → j < width → (k : ℕ) → k < width → byte b marks table fine i k ≡ byte b marks table fine j k
  one_name_one_row h l = Tables.rows_same (book_of b) _ fine table i j h l (λ c. one_name_one_grade b ok c i j h l same)

  pub one_name_one_column : i < width → j < width → (k : ℕ) → k < width → byte b marks table fine k i ≡ byte b marks table fine k j
  one_name_one_column h l = Tables.columns-same (book_of b) _ fine table i j h l (λ c. one_name_one_grade b ok c i j h l same)

-- ---- "Books pasted from fragments repeat a name in several terms."

-- c is b with a further, last term, which repeats the name a of a term of b: N and the bytes of every other section are b's
pub record Repeats (a : ℕ) (b c : List ℕ) : Type 0 where
  pub steps_same : steps c ≡ steps b
  pub terms_longer : term_bytes c (sections_of c) ≡ term_bytes b (sections_of b) ++ (0 ∷ a ∷ 0 ∷ [])
  pub rules_same : rule_bytes c (sections_of c) ≡ rule_bytes b (sections_of b)
  pub memberships_same : membership_bytes c (sections_of c) ≡ membership_bytes b (sections_of b)
  pub links_same : link_bytes c (sections_of c) ≡ link_bytes b (sections_of b)
  pub pairs_same : pair_bytes c (sections_of c) ≡ pair_bytes b (sections_of b)
  pub name_there : Bears b (term_count (terms b)) a

module _ (a : ℕ) (b c : List ℕ) (ok : Accepts b) (w : Repeats a b c) where
  -- it is accepted where it fits: where checks 1, 2, 4 and 5, which ask for its length, edition, counts and layout, say yes, all others do
  pub repeat_is-accepted : LengthRight c → EditionRight c → CountsRight c → LaidOut c (sections_of c) → Accepts c
  repeat_is-accepted =
      Read.more-accepted b c ok a w.terms_longer w.steps_same w.rules_same w.memberships_same w.links_same w.pairs_same
      (Places.bears-few b ok a w.name_there)

  module _ (also : Accepts c) where
    -- the term whose name is repeated
    abbrev k : ℕ
    k = (Places.bears-term b ok a w.name_there).0

    renumbers : Sharing.RenumberedBook (Sharing.without_last (book_of b).grading.terms k) (book_of c) (book_of b)
    renumbers =
        let (_, l, e) = Places.bears-term b ok a w.name_there in
        subst (λ (B : Book). Sharing.RenumberedBook (Sharing.without_last (book_of b).grading.terms k) B (book_of b))
        (sym (Read.more_reads b c ok a w.terms_longer w.steps_same w.rules_same w.memberships_same w.links_same w.pairs_same))
        (Sharing.book_without (book_of b) k a (accepts_valid b ok) l e)

    same : Alike.SameDecision (book_of c) (book_of b)
    same = Alike.same-renumbered _ (book_of c) (book_of b) (accepts_valid c also) renumbers

    -- adding it changes neither the outcome nor the survivor count, nor a byte of marks or placement: whatever the buffers hold, refused calls too
    pub repeat_decided_alike : (m p : ℕ) → decision_of c m p ≡ decision_of b m p
    repeat_decided_alike = Alike.decided_alike c b also ok same

    pub repeat_marked_alike : (p : ℕ) (marks : List ℕ) → marks_after c p marks ≡ marks_after b p marks
    repeat_marked_alike = Alike.marks_alike c b also ok same

    pub repeat_placed_alike : (m : ℕ) (buffer : List ℕ) → placement_after c m buffer ≡ placement_after b m buffer
    repeat_placed_alike = Alike.placement_alike c b also ok same

    -- nor a byte of the table of implied rules between two terms that b has, where no check of either call says no; what the further term has there, any term
    -- with its name has (`one_name_one_row`, `one_name_one_column`)
    pub repeat_implied_alike : (m s : List ℕ) (fine : first_no (implied_questions c (length m) (length s)) ≡ none) (n t : List ℕ)
        (too : first_no (implied_questions b (length n) (length t)) ≡ none) (i j : ℕ) → i < length (book_of b).grading.terms → j < length (book_of b).grading.terms
        → byte c m s fine i j ≡ byte b n t too i j
    repeat_implied_alike m s fine n t too i j h l =
        let (_, g, e) = Places.bears-term b ok a w.name_there in
        let stays = Sharing.without_before (book_of b).grading.terms (accepts_valid b ok).well_formed.ordered k a g e in
        let more = Read.more-terms b c ok a w.terms_longer w.steps_same w.rules_same w.memberships_same w.links_same w.pairs_same in
        Tables.table-renumbered _ (book_of c) (book_of b) _ _ (accepts_valid c also) renumbers fine too s t i j (more i h) (more j l)
        ∙ ap₂ (λ (x y : ℕ). byte b n t too x y) (stays i h) (stays j l)

-- In the book in which repeats are left out no name recurs
pub shared-names_stand_once : (ts : List Term) (i j a : ℕ) → i < length (shared_terms ts) → j < length (shared_terms ts) → term (shared_terms ts) i ≡ name a
    → term (shared_terms ts) j ≡ name a → i ≡ j
shared-names_stand_once = Sharing.shared_apart

-- and so of any number of repeats: c reads as b with every term that repeats a name left out, and its name's first term in its place, in terms, rules and
-- claims
module _ (b c : List ℕ) (ok : Accepts b) (also : Accepts c) (e : book_of c ≡ shared (book_of b)) where
  shares_terms : Sharing.RenumberedBook (shared_number (book_of b).grading.terms) (book_of b) (book_of c)
  shares_terms =
      subst (λ (C : Book). Sharing.RenumberedBook (shared_number (book_of b).grading.terms) (book_of b) C) (sym e)
      (Sharing.shared-book (book_of b) (accepts_valid b ok))

  shares : Alike.SameDecision (book_of b) (book_of c)
  shares = Alike.same-renumbered _ (book_of b) (book_of c) (accepts_valid b ok) shares_terms

  pub pasted_decided_alike : (m p : ℕ) → decision_of b m p ≡ decision_of c m p
  pasted_decided_alike = Alike.decided_alike b c ok also shares

  pub pasted-marked_alike : (p : ℕ) (marks : List ℕ) → marks_after b p marks ≡ marks_after c p marks
  pasted-marked_alike = Alike.marks_alike b c ok also shares

  pub pasted-placed_alike : (m : ℕ) (buffer : List ℕ) → placement_after b m buffer ≡ placement_after c m buffer
  pasted-placed_alike = Alike.placement_alike b c ok also shares

  -- and, where no check of either call says no, the byte of two terms in the table of implied rules is that of the terms which stand for them
  pub pasted_implied_alike : (m s : List ℕ) (fine : first_no (implied_questions b (length m) (length s)) ≡ none) (n t : List ℕ)
      (too : first_no (implied_questions c (length n) (length t)) ≡ none) (i j : ℕ) → i < length (book_of b).grading.terms → j < length (book_of b).grading.terms
      → byte b m s fine i j ≡ byte c n t too (shared_number (book_of b).grading.terms i) (shared_number (book_of b).grading.terms j)
  pasted_implied_alike m s fine n t too = Tables.table-renumbered _ (book_of b) (book_of c) _ _ (accepts_valid b ok) shares_terms fine too s t
