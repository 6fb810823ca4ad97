-- Laws of answers: what a call answers and leaves by the first no, what more questions add, what number an answer has, and when two calls answer
-- alike.
-- Assumes nothing.
use mathlib.Core.Path.{◌≡◌, refl, sym, ap, ◌∙◌}
use mathlib.Core.Option.{Option, none, some}
use mathlib.Core.List.{List, ◌++◌}
use Prim.Native.Nat.{ℕ}
use Rattle.chain.specs.Questions.{Question, first_no}
use Rattle.chain.specs.Answers.{answer_by, answer}
use Rattle.chain.proofs.Questions.{first-some-append, first-none-append}

module _ {A : Type 0} (refused : ℕ → A) (value : A) (qs : List Question) where
  pub answer-value : first_no qs ≡ none → answer refused value qs ≡ value
  answer-value e = ap (answer_by refused value) e

  -- of a buffer: a refusal leaves it as it was
  pub answer-refused : (n : ℕ) → first_no qs ≡ some n → answer refused value qs ≡ refused n
  answer-refused n e = ap (answer_by refused value) e

  -- ---- more questions after

  pub answer-before : (rs : List Question) (n : ℕ) → first_no qs ≡ some n → answer refused value (qs ++ rs) ≡ refused n
  answer-before rs n e = ap (answer_by refused value) (first-some-append qs rs n e)

  pub answer-after : (rs : List Question) → first_no qs ≡ none → answer refused value (qs ++ rs) ≡ answer refused value rs
  answer-after rs e = ap (answer_by refused value) (first-none-append qs rs e)

  -- ---- the answer's number: none for the value

  module _ (number : A → Option ℕ) (of-refused : (n : ℕ) → number (refused n) ≡ some n) (of-value : number value ≡ none) where
    pub answer-number : number (answer refused value qs) ≡ first_no qs
    answer-number = go (first_no qs)
      where
        go : (o : Option ℕ) → number (answer_by refused value o) ≡ o
        go none = of-value
        go (some n) = of-refused n

    pub answer_no : (n : ℕ) → answer refused value qs ≡ refused n → first_no qs ≡ some n
    answer_no n e = sym answer-number ∙ ap number e ∙ of-refused n

    -- an answer that is no refusal is the value
    pub answer_yes : (x : A) → number x ≡ none → answer refused value qs ≡ x → (first_no qs ≡ none) × (value ≡ x)
    answer_yes x h e = let f = sym answer-number ∙ ap number e ∙ h in (f, sym (answer-value f) ∙ e)

-- what a call promises, from its equation: its number is the first no
module _ {A : Type 0} (number : A → Option ℕ) {x r : A} {o : Option ℕ} (is : number x ≡ o) where
  pub numbered : r ≡ x → (r ≡ x) × (number r ≡ o)
  numbered e = (e, ap number e ∙ is)

  pub numbered-and : {Q : Type 0} → (r ≡ x) × Q → (r ≡ x) × ((number r ≡ o) × Q)
  numbered-and w = (w.0, (ap number w.0 ∙ is, w.1))

-- calls that say no alike, and have one value where all say yes, answer alike
pub answer_alike : {A : Type 0} (refused : ℕ → A) (v w : A) (qs rs : List Question) → first_no qs ≡ first_no rs → (first_no rs ≡ none → v ≡ w)
    → answer refused v qs ≡ answer refused w rs
answer_alike refused v w qs rs e f = ap (answer_by refused v) e ∙ go (first_no rs) refl
  where
    go : (o : Option ℕ) → first_no rs ≡ o → answer_by refused v o ≡ answer_by refused w o
    go none h = f h
    go (some n) h = refl
