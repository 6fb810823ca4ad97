-- Laws of questions in order: a yes passes on to the rest, a no is the answer, and where there is none each question says yes.
-- Assumes nothing.
use mathlib.Core.Path.{◌≡◌, refl, sym, ◌∙◌}
use mathlib.Core.Bool.{Bool, true, false}
use mathlib.Core.Option.{Option, none, some}
use mathlib.Core.List.{List, [], ◌∷◌, ◌++◌}
use Prim.Native.Nat.{ℕ, ◌<◌}
use native.Mathlib.Omega.{arith}
use Rattle.chain.specs.Decisions.{says}
use Rattle.chain.proofs.Decisions.{says_yes, says_no, says_true}
use Rattle.refusals.specs.Refusals.{number_of}
use Rattle.refusals.specs.Questions.{Question, ask, first_no, TellsFirstNo, or_zero}
use Rattle.refusals.specs.declared.Refusal.{Refusal}
use Rattle.refusals.proofs.Refusals.{number-above}

pub first_empty : first_no [] ≡ none
unfolding first_no
first_empty = refl

module _ {A : Type 0} (r : Refusal) (d : Dec A) (qs : List Question) where
  pub first_yes : A → first_no (ask r d ∷ qs) ≡ first_no qs
  unfolding first_no
  first_yes a = rw (says_yes d a, first_no)

  pub first_no_lem : ¬ A → first_no (ask r d ∷ qs) ≡ some r
  unfolding first_no
  first_no_lem m = rw (says_no d m, first_no)

  pub first-none : first_no (ask r d ∷ qs) ≡ none → A × (first_no qs ≡ none)
  unfolding first_no
  first-none = go (says d) refl
    where
      go : (b : Bool) → says d ≡ b → (let o : Option Refusal = elim b [ true ↦ first_no qs | false ↦ some r ] in o ≡ none) → A × (first_no qs ≡ none)
      go true e h = (says_true d e, h)
      go false e h = let z : ◌≡◌ {A = ℕ} 0 1 = cc in absurd (omega arith)

-- ---- more questions after

pub first-some-append : (qs rs : List Question) (r : Refusal) → first_no qs ≡ some r → first_no (qs ++ rs) ≡ some r
unfolding first_no
first-some-append [] rs r e = let z : ◌≡◌ {A = ℕ} 0 1 = cc in absurd (omega arith)
first-some-append (q ∷ qs) rs r e = go q.answer (first-some-append qs rs r) e
  where
    go : (b : Bool) → (first_no qs ≡ some r → first_no (qs ++ rs) ≡ some r)
        → (let o : Option Refusal = elim b [ true ↦ first_no qs | false ↦ some q.refusal ] in o ≡ some r)
        → (let o : Option Refusal = elim b [ true ↦ first_no (qs ++ rs) | false ↦ some q.refusal ] in o ≡ some r)
    go true ih h = ih h
    go false ih h = h

pub first-none-append : (qs rs : List Question) → first_no qs ≡ none → first_no (qs ++ rs) ≡ first_no rs
unfolding first_no
first-none-append [] rs e = refl
first-none-append (q ∷ qs) rs e = go q.answer (first-none-append qs rs) e
  where
    go : (b : Bool) → (first_no qs ≡ none → first_no (qs ++ rs) ≡ first_no rs)
        → (let o : Option Refusal = elim b [ true ↦ first_no qs | false ↦ some q.refusal ] in o ≡ none)
        → (let o : Option Refusal = elim b [ true ↦ first_no (qs ++ rs) | false ↦ some q.refusal ] in o ≡ first_no rs)
    go true ih h = ih h
    go false ih h = let z : ◌≡◌ {A = ℕ} 0 1 = cc in absurd (omega arith)

-- all say yes where both lists do, and only there
pub first-both : (qs rs : List Question) → first_no (qs ++ rs) ≡ none → (first_no qs ≡ none) × (first_no rs ≡ none)
first-both qs rs e = go (first_no qs) refl
  where
    go : (o : Option Refusal) → first_no qs ≡ o → (first_no qs ≡ none) × (first_no rs ≡ none)
    go none f = (f, sym (first-none-append qs rs f) ∙ e)
    go (some r) f = let z = sym (first-some-append qs rs r f) ∙ e in let y : ◌≡◌ {A = ℕ} 0 1 = cc in absurd (omega arith)

-- two questions more, which most calls have of their own
module _ (qs : List Question) {A B : Type 0} (m n : Refusal) (d : Dec A) (e : Dec B) where
  abbrev further : List Question
  further = qs ++ (ask m d ∷ ask n e ∷ [])

  pub two_before : (k : Refusal) → first_no qs ≡ some k → first_no further ≡ some k
  two_before = first-some-append qs (ask m d ∷ ask n e ∷ [])

  pub two_first : first_no qs ≡ none → ¬ A → first_no further ≡ some m
  two_first h a = first-none-append qs _ h ∙ first_no_lem m d _ a

  pub two_second : first_no qs ≡ none → A → ¬ B → first_no further ≡ some n
  two_second h a b = first-none-append qs _ h ∙ first_yes m d _ a ∙ first_no_lem n e [] b

  pub two_none : first_no qs ≡ none → A → B → first_no further ≡ none
  two_none h a b = first-none-append qs _ h ∙ first_yes m d _ a ∙ first_yes n e [] b ∙ first_empty

  -- and back
  pub two_both : first_no further ≡ none → (first_no qs ≡ none) × A × B
  two_both h =
      let u = first-both qs (ask m d ∷ ask n e ∷ []) h in
      let v = first-none m d (ask n e ∷ []) u.1 in
      (u.0, v.0, (first-none n e [] v.1).0)

-- ---- as a number, 0 where there is none

pub tells_first_no : (qs : List Question) (n : ℕ) → n ≡ or_zero (first_no qs) → TellsFirstNo qs n
tells_first_no qs n = go (first_no qs) refl
  where
    go : (o : Option Refusal) → first_no qs ≡ o → n ≡ or_zero o → TellsFirstNo qs n
    go none e h = record { answered = (λ _. e, λ _. h); refused = λ r f. let z : ◌≡◌ {A = ℕ} 0 1 = cc in absurd (omega arith) }
    go (some q) e h = record {
      answered = (λ z. absurd (omega (arith, number-above q, h, z)), λ f. let z : ◌≡◌ {A = ℕ} 0 1 = cc in absurd (omega arith));
      refused = λ r f. let g : q ≡ r = cc in rw (← g) h;
    }
