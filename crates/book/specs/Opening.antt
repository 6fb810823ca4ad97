-- What opening a book answers: the first check that says no, or the sections. Document 01, "Every call on a book"; check 22
-- of document 02, P1.
-- Assumes nothing.
use Rattle.std.specs.Prelude.{◌≡◌, List, [], ◌∷◌, ℕ, Result}
use Rattle.std.proofs.Math.Option.{none}
use Rattle.refusals.specs.Questions.{Question, ask, first_no}
use Rattle.refusals.specs.Answers.{answer}
use Rattle.refusals.specs.declared.Refusal.{Refusal}
use Rattle.refusals.specs.declared.Refusal.TheVariants as refusal
use Rattle.sections.specs.Terms.{TermsRight, terms_right?}
use Rattle.claims.specs.Rules.{RulesRight, rules_right?}
use Rattle.claims.specs.Pairs.{PairsRight, pairs_right?}
use Rattle.claims.specs.Claims.{MembershipsRight, memberships_right?, LinksRight, links_right?}
use Rattle.layout.specs.Layout.{sections_of, LaidOut, laid_out?, term_bytes, rule_bytes, membership_bytes, link_bytes, pair_bytes, terms_in}
use Rattle.heads.specs.Heads.{LengthRight, length_right?, EditionRight, edition_right?, StepsRight, steps_right?, CountsRight, counts_right?}
use Rattle.layout.specs.declared.Sections.{Sections}

-- ---- the questions

-- of the bodies that stand in b at s: "22 .., straight after 9, on every call on a book"
abbrev pub body_questions : List ℕ → Sections → List Question
body_questions b s =
    ask refusal.Terms (terms_right? (term_bytes b s))
    ∷ ask refusal.Rules (rules_right? (rule_bytes b s) (terms_in s))
    ∷ ask refusal.MembershipClaims (memberships_right? (membership_bytes b s) s.steps (terms_in s))
    ∷ ask refusal.LinkClaims (links_right? (link_bytes b s) s.steps)
    ∷ ask refusal.Pairs (pairs_right? (pair_bytes b s)) ∷ []

-- "Every call on a book"
abbrev pub book_questions : List ℕ → List Question
book_questions b =
    ask refusal.BookLength (length_right? b)
    ∷ ask refusal.Edition (edition_right? b)
    ∷ ask refusal.Steps (steps_right? b)
    ∷ ask refusal.Counts (counts_right? b)
    ∷ ask refusal.Layout (laid_out? b (sections_of b)) ∷ body_questions b (sections_of b)

-- "A book is accepted when all checks under "Every call on a book" say yes."
unfoldable pub Accepts : List ℕ → Type 0
Accepts b = first_no (book_questions b) ≡ none

-- what those checks say yes to, and that s are the book's sections
pub record Right (b : List ℕ) (s : Sections) : Type 0 where
  pub sections_are : s ≡ sections_of b
  pub length_right : LengthRight b
  pub edition_right : EditionRight b
  pub steps_right : StepsRight b
  pub counts_right : CountsRight b
  pub laid_out : LaidOut b s
  pub terms_right : TermsRight (term_bytes b s)
  pub rules_right : RulesRight (rule_bytes b s) (terms_in s)
  pub memberships_right : MembershipsRight (membership_bytes b s) s.steps (terms_in s)
  pub links_right : LinksRight (link_bytes b s) s.steps
  pub pairs_right : PairsRight (pair_bytes b s)

-- ---- opening

-- the sections, where none of the questions says no
unfoldable pub opened_of : List ℕ → Result Sections Refusal
opened_of b = answer (sections_of b) (book_questions b)
