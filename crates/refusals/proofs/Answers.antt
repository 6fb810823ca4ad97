-- Laws of answers: what a call answers and leaves by the first no, what more questions add, what refusal an answer has, and when two calls answer
-- alike.
-- Assumes nothing.
use mathlib.Core.Path.{◌≡◌, refl, sym, ap, ◌∙◌}
use mathlib.Core.Option.{Option, none, some}
use mathlib.Core.List.{List, ◌++◌}
use Rattle.std.specs.Prelude.{Result, Ok, Err, IsErrAnd}
use Rattle.refusals.specs.Questions.{Question, first_no}
use Rattle.refusals.specs.Answers.{checked_by, checked, answer, refusal_in}
use Rattle.refusals.specs.declared.Refusal.{Refusal}
use Rattle.refusals.proofs.Questions.{first-some-append, first-none-append}

-- ---- of what follows from the first no: an answer, or a buffer, which a refusal leaves as it was

module _ {A : Type 0} (refused : Refusal → A) (value : A) (qs : List Question) where
  pub checked-value : first_no qs ≡ none → checked refused value qs ≡ value
  checked-value e = ap (checked_by refused value) e

  pub checked-refused : (r : Refusal) → first_no qs ≡ some r → checked refused value qs ≡ refused r
  checked-refused r e = ap (checked_by refused value) e

  -- ---- more questions after

  pub checked-before : (rs : List Question) (r : Refusal) → first_no qs ≡ some r → checked refused value (qs ++ rs) ≡ refused r
  checked-before rs r e = ap (checked_by refused value) (first-some-append qs rs r e)

  pub checked-after : (rs : List Question) → first_no qs ≡ none → checked refused value (qs ++ rs) ≡ checked refused value rs
  checked-after rs e = ap (checked_by refused value) (first-none-append qs rs e)

-- calls that say no alike, and have one value where all say yes, answer alike and leave the same
pub checked_alike : {A : Type 0} (refused : Refusal → A) (v w : A) (qs rs : List Question) → first_no qs ≡ first_no rs → (first_no rs ≡ none → v ≡ w)
    → checked refused v qs ≡ checked refused w rs
checked_alike refused v w qs rs e f = ap (checked_by refused v) e ∙ go (first_no rs) refl
  where
    go : (o : Option Refusal) → first_no rs ≡ o → checked_by refused v o ≡ checked_by refused w o
    go none h = f h
    go (some r) h = refl

-- ---- of an answer

module _ {A : Type 0} (value : A) (qs : List Question) where
  -- its refusal is the first no
  pub answer_refusal : refusal_in (answer value qs) ≡ first_no qs
  answer_refusal = go (first_no qs)
    where
      go : (o : Option Refusal) → refusal_in (checked_by Err (Ok value) o) ≡ o
      go none = refl
      go (some r) = refl

  pub answer_no : (r : Refusal) → answer value qs ≡ Err r → first_no qs ≡ some r
  answer_no r e = sym answer_refusal ∙ ap refusal_in e

  -- an answer that is no refusal is the value
  pub answer_yes : (x : A) → answer value qs ≡ Ok x → (first_no qs ≡ none) × (value ≡ x)
  answer_yes x e =
      let f = sym answer_refusal ∙ ap refusal_in e in
      let g : ◌≡◌ {A = Result A Refusal} (Ok value) (Ok x) = sym (checked-value Err (Ok value) qs f) ∙ e in
      (f, cc)

-- what a call promises, from its equation: its refusal is the first no
module _ {A : Type 0} {x r : Result A Refusal} {o : Option Refusal} (is : refusal_in x ≡ o) where
  pub numbered : r ≡ x → (r ≡ x) × (refusal_in r ≡ o)
  numbered e = (e, ap refusal_in e ∙ is)

  pub numbered-and : {Q : Type 0} → (r ≡ x) × Q → (r ≡ x) × ((refusal_in r ≡ o) × Q)
  numbered-and w = (w.0, (ap refusal_in w.0 ∙ is, w.1))

-- what a `?` hands on of a call's refusal
pub handed_on : {A : Type 0} {r : Refusal} (x : Result A Refusal) → IsErrAnd x (λ e. e ≡ r) → x ≡ Err r
handed_on (Ok a) h = absurd h
handed_on (Err e) h = ap Err h
