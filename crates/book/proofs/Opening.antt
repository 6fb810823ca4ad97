-- Laws of opening: which check is the first that says no, and what follows from it.
-- Assumes nothing.
use mathlib.Core.Path.{◌≡◌, refl, sym, ap, subst, ◌∙◌}
use mathlib.Core.Option.{none, some}
use mathlib.Core.List.{List}
use Prim.Native.Nat.{ℕ, ◌≤◌}
use native.Mathlib.Omega.{arith}
use Rattle.std.specs.Prelude.{Ok, Err}
use Rattle.refusals.specs.Questions.{first_no}
use Rattle.refusals.specs.Answers.{refusal_in}
use Rattle.refusals.proofs.Questions.{first_empty, first_yes, first_no_lem, first-none}
use Rattle.refusals.proofs.Answers.{checked-value, checked-refused, answer_refusal, answer_no, answer_yes}
use Rattle.refusals.specs.declared.Refusal.{Refusal}
use Rattle.refusals.specs.declared.Refusal.TheVariants as refusal
use Rattle.sections.specs.Terms.{TermsRight}
use Rattle.claims.specs.Rules.{RulesRight}
use Rattle.claims.specs.Pairs.{PairsRight}
use Rattle.claims.specs.Claims.{MembershipsRight, LinksRight}
use Rattle.heads.specs.Heads.{steps, LengthRight, EditionRight, StepsRight, CountsRight}
use Rattle.layout.specs.Layout.{sections_of, LaidOut, InOrder, term_bytes, rule_bytes, membership_bytes, link_bytes, pair_bytes, terms_in}
use Rattle.book.specs.Opening.{body_questions, book_questions, Accepts, Right, opened_of}
use Rattle.layout.specs.declared.Sections.{Sections}

-- ---- the bodies

module _ (b : List ℕ) (s : Sections) where
  abbrev Terms : Type 0
  Terms = TermsRight (term_bytes b s)

  abbrev Rules : Type 0
  Rules = RulesRight (rule_bytes b s) (terms_in s)

  abbrev Memberships : Type 0
  Memberships = MembershipsRight (membership_bytes b s) s.steps (terms_in s)

  abbrev Links : Type 0
  Links = LinksRight (link_bytes b s) s.steps

  abbrev Pairs : Type 0
  Pairs = PairsRight (pair_bytes b s)

  pub body_6 : ¬ Terms → first_no (body_questions b s) ≡ some refusal.Terms
  body_6 n = first_no_lem _ _ _ n

  pub body_7 : Terms → ¬ Rules → first_no (body_questions b s) ≡ some refusal.Rules
  body_7 t n = first_yes _ _ _ t ∙ first_no_lem _ _ _ n

  pub body_8 : Terms → Rules → ¬ Memberships → first_no (body_questions b s) ≡ some refusal.MembershipClaims
  body_8 t r n = first_yes _ _ _ t ∙ first_yes _ _ _ r ∙ first_no_lem _ _ _ n

  pub body_9 : Terms → Rules → Memberships → ¬ Links → first_no (body_questions b s) ≡ some refusal.LinkClaims
  body_9 t r m n = first_yes _ _ _ t ∙ first_yes _ _ _ r ∙ first_yes _ _ _ m ∙ first_no_lem _ _ _ n

  pub body_22 : Terms → Rules → Memberships → Links → ¬ Pairs → first_no (body_questions b s) ≡ some refusal.Pairs
  body_22 t r m l n = first_yes _ _ _ t ∙ first_yes _ _ _ r ∙ first_yes _ _ _ m ∙ first_yes _ _ _ l ∙ first_no_lem _ _ _ n

  pub body_none : Terms → Rules → Memberships → Links → Pairs → first_no (body_questions b s) ≡ none
  body_none t r m l p = first_yes _ _ _ t ∙ first_yes _ _ _ r ∙ first_yes _ _ _ m ∙ first_yes _ _ _ l ∙ first_yes _ _ _ p ∙ first_empty

-- ---- the head, and then the bodies

module _ (b : List ℕ) where
  pub head_1 : ¬ LengthRight b → first_no (book_questions b) ≡ some refusal.BookLength
  head_1 n = first_no_lem _ _ _ n

  pub head_2 : LengthRight b → ¬ EditionRight b → first_no (book_questions b) ≡ some refusal.Edition
  head_2 l n = first_yes _ _ _ l ∙ first_no_lem _ _ _ n

  pub head_3 : LengthRight b → EditionRight b → ¬ StepsRight b → first_no (book_questions b) ≡ some refusal.Steps
  head_3 l e n = first_yes _ _ _ l ∙ first_yes _ _ _ e ∙ first_no_lem _ _ _ n

  pub head_4 : LengthRight b → EditionRight b → StepsRight b → ¬ CountsRight b → first_no (book_questions b) ≡ some refusal.Counts
  head_4 l e p n = first_yes _ _ _ l ∙ first_yes _ _ _ e ∙ first_yes _ _ _ p ∙ first_no_lem _ _ _ n

  pub head_5 : LengthRight b → EditionRight b → StepsRight b → CountsRight b → ¬ LaidOut b (sections_of b)
      → first_no (book_questions b) ≡ some refusal.Layout
  head_5 l e p k n = first_yes _ _ _ l ∙ first_yes _ _ _ e ∙ first_yes _ _ _ p ∙ first_yes _ _ _ k ∙ first_no_lem _ _ _ n

  pub head-none : LengthRight b → EditionRight b → StepsRight b → CountsRight b → LaidOut b (sections_of b)
      → first_no (book_questions b) ≡ first_no (body_questions b (sections_of b))
  head-none l e p k o = first_yes _ _ _ l ∙ first_yes _ _ _ e ∙ first_yes _ _ _ p ∙ first_yes _ _ _ k ∙ first_yes _ _ _ o

  -- where the layout is right, the sections follow one another up to the end
  pub sections_ordered : LaidOut b (sections_of b) → InOrder b (sections_of b)
  unfolding sections_of
  sections_ordered o = (omega arith, omega arith, omega arith, omega arith, omega arith, omega (arith, o.1.1.1.1.1))

  -- ---- an accepted book passed every check

  accepts_is : first_no (book_questions b) ≡ none → Accepts b
  unfolding Accepts
  accepts_is e = e

  -- byte 1 is N
  sections_steps : (sections_of b).steps ≡ steps b
  unfolding sections_of
  sections_steps = refl

  pub accepts_right : Accepts b → Right b (sections_of b)
  unfolding Accepts
  accepts_right h =
      let q1 = first-none _ _ _ h in
      let q2 = first-none _ _ _ q1.1 in
      let q3 = first-none _ _ _ q2.1 in
      let q4 = first-none _ _ _ q3.1 in
      let q5 = first-none _ _ _ q4.1 in
      let q6 = first-none _ _ _ q5.1 in
      let q7 = first-none _ _ _ q6.1 in
      let q8 = first-none _ _ _ q7.1 in
      let q9 = first-none _ _ _ q8.1 in
      let q22 = first-none _ _ _ q9.1 in
      record {
        sections_are = refl;
        length_right = q1.0;
        edition_right = q2.0;
        steps_right = q3.0;
        counts_right = q4.0;
        laid_out = q5.0;
        terms_right = q6.0;
        rules_right = q7.0;
        memberships_right = q8.0;
        links_right = q9.0;
        pairs_right = q22.0;
      }

  -- ---- the answer, by the first no

  pub opened_no : (r : Refusal) → first_no (book_questions b) ≡ some r → (opened_of b ≡ Err r) × (some r ≡ first_no (book_questions b))
  unfolding opened_of
  opened_no r e = (checked-refused Err _ (book_questions b) r e, sym e)

  pub opened_none : first_no (book_questions b) ≡ none → opened_of b ≡ Ok (sections_of b)
  unfolding opened_of
  opened_none = checked-value Err _ (book_questions b)

  -- and back: its refusal is the first no
  pub opened_refusal : refusal_in (opened_of b) ≡ first_no (book_questions b)
  unfolding opened_of
  opened_refusal = answer_refusal _ (book_questions b)

  pub opened_refused : (r : Refusal) → opened_of b ≡ Err r → first_no (book_questions b) ≡ some r
  unfolding opened_of
  opened_refused = answer_no _ (book_questions b)

  pub opened_accepted : (s : Sections) → opened_of b ≡ Ok s → Right b s
  unfolding opened_of
  opened_accepted s e =
      let u = answer_yes _ (book_questions b) s e in
      subst (Right b) u.1 (accepts_right (accepts_is u.0))

-- ---- what later calls take from an accepted book

module _ (b : List ℕ) (s : Sections) (ok : Right b s) where
  pub right-ordered : InOrder b s
  right-ordered = rw ok.sections_are (sections_ordered b (subst (LaidOut b) ok.sections_are ok.laid_out))

  pub right-steps : (1 ≤ s.steps) × (s.steps ≤ 8)
  right-steps = rw (ok.sections_are, sections_steps b) ok.steps_right

  pub right_accepts : Accepts b
  unfolding Accepts
  right_accepts =
      let e = ok.sections_are in
      first_yes _ _ _ ok.length_right ∙ first_yes _ _ _ ok.edition_right ∙ first_yes _ _ _ ok.steps_right ∙ first_yes _ _ _ ok.counts_right
      ∙ first_yes _ _ _ (subst (LaidOut b) e ok.laid_out)
      ∙ subst (λ (t : Sections). first_no (body_questions b t) ≡ none) e
      (first_yes _ _ _ ok.terms_right ∙ first_yes _ _ _ ok.rules_right ∙ first_yes _ _ _ ok.memberships_right ∙ first_yes _ _ _ ok.links_right
      ∙ first_yes _ _ _ ok.pairs_right ∙ first_empty)

-- ---- what the methods of an opened book take from its opening

module _ (b : List ℕ) (s : Sections) (e : opened_of b ≡ Ok s) where
  pub opened_ordered : InOrder b s
  opened_ordered = right-ordered b s (opened_accepted b s e)

  pub opened_counted : s.terms ≤ s.rules
  opened_counted = omega (arith, opened_ordered.0)

-- sections that passed every check are what opening gives
pub opened_right : (b : List ℕ) (s : Sections) → Right b s → opened_of b ≡ Ok s
unfolding Accepts
opened_right b s ok = opened_none b (right_accepts b s ok) ∙ ap Ok (sym ok.sections_are)
