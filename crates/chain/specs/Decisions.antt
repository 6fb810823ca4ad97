-- Decisions of compound facts. A notion is a type, and its test is a `Dec` of that type: so each notion is written once, and no lemma has to
-- tie a test to its meaning.
-- Assumes nothing.
use Rattle.std.specs.Prelude.{◌≡◌, ◌⊎◌, Bool, true, false}
use Rattle.std.proofs.Common.{inl, inr, ⊎_elim}

unfoldable pub dec_and : {A B : Type 0} → Dec A → Dec B → Dec (A × B)
dec_and (yes a) (yes b) = yes (a, b)
dec_and (yes a) (no n) = no (λ p. n p.1)
dec_and (no n) d = no (λ p. n p.0)

unfoldable pub dec_or : {A B : Type 0} → Dec A → Dec B → Dec (A ⊎ B)
dec_or (yes a) d = yes (inl a)
dec_or (no n) (yes b) = yes (inr b)
dec_or (no n) (no m) = no (λ s. ⊎_elim n m s)

unfoldable pub dec_imp : {A B : Type 0} → Dec A → Dec B → Dec (A → B)
dec_imp (yes a) (yes b) = yes (λ _. b)
dec_imp (yes a) (no n) = no (λ f. n (f a))
dec_imp (no n) d = yes (λ a. absurd (n a))

unfoldable pub dec_not : {A : Type 0} → Dec A → Dec (¬ A)
dec_not (yes a) = no (λ n. n a)
dec_not (no n) = yes n

-- a fact that holds exactly when one that is decided does
unfoldable pub dec_map : {A B : Type 0} → (A → B) → (B → A) → Dec A → Dec B
dec_map f g (yes a) = yes (f a)
dec_map f g (no n) = no (λ b. n (g b))

-- ---- a decision as a Bool

unfoldable pub says : {A : Type 0} → Dec A → Bool
says (yes a) = true
says (no n) = false

-- a test's result tells whether the fact holds: what code promises of a test
abbrev pub Tells : Bool → Type 0 → Type 0
Tells r A = (r ≡ true → A) × (r ≡ false → ¬ A)
